-- The contract of `translate` determines everything: each of its fields says what one result or one list is.
use Rattle.std.specs.Prelude.{Result}
use mathlib.Core.Path.{◌≡◌, sym, ◌∙◌}
use mathlib.Core.List.{List}
use Prim.Native.Nat.{ℕ}
use lib.IntN.{ℤ}
use Rattle.translate.specs.Translate.{Translates}
use Rattle.translate.specs.declared.Counts.{Counts}
use Rattle.translate.specs.declared.Refused.{Refused}

pub translate_once : {t : List ℕ} {rs₀ ps₀ ns₀ ls₀ : List ℤ} {bytes₀ : List ℕ} {rs ps ns ls rs' ps' ns' ls' : List ℤ} {bytes bytes' : List ℕ} {r r' : Result Counts Refused}
    → Translates t rs₀ ps₀ ns₀ ls₀ bytes₀ rs ps ns ls bytes r → Translates t rs₀ ps₀ ns₀ ls₀ bytes₀ rs' ps' ns' ls' bytes' r'
    → (r ≡ r') × (rs ≡ rs') × (ps ≡ ps') × (ns ≡ ns') × (ls ≡ ls') × (bytes ≡ bytes')
translate_once a b = (
  a.result ∙ sym b.result,
  a.ranges ∙ sym b.ranges,
  a.primitives ∙ sym b.primitives,
  a.lengths ∙ sym b.lengths,
  a.literals ∙ sym b.literals,
  a.names ∙ sym b.names,
)
