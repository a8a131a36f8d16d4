-- The promises of the public call: each hands its statement to the laws that have it.
use Rattle.std.specs.Prelude.{Ok}
use mathlib.Core.Path.{refl, ap, ◌∙◌}
use Rattle.translate.specs.Translate.{result_of}
use Rattle.translate.specs.Promises.{TranslateAccepted, TranslateRest, TranslateRefused, RefusedBack, TranslateOnce}
use Rattle.translate.proofs.AcceptedFronts.{taken, rest_left}
use Rattle.translate.proofs.AnswerMeans.{translation, refused_right, for_refused}
use Rattle.translate.proofs.Once as once

pub translate_accepted : TranslateAccepted
translate_accepted = λ t rs₀ ps₀ ns₀ ls₀ bytes₀ rs ps ns ls bytes c h. translation t c rs ps ns ls bytes (taken t rs₀ ps₀ ns₀ ls₀ bytes₀ c rs ps ns ls bytes (Ok c) h refl)

pub translate_rest : TranslateRest
translate_rest = λ t rs₀ ps₀ ns₀ ls₀ bytes₀ rs ps ns ls bytes c h. rest_left t rs₀ ps₀ ns₀ ls₀ bytes₀ c rs ps ns ls bytes (Ok c) h refl

pub translate_refused : TranslateRefused
translate_refused = refused_right

pub refused_back : RefusedBack
refused_back = λ t rs₀ ps₀ ns₀ ls₀ bytes₀ rs ps ns ls bytes r n k h f. let b = for_refused t rs₀ ps₀ ns₀ ls₀ bytes₀ n k f in (b.0, b.1, h.result ∙ ap result_of b.2)

pub translate_once : TranslateOnce
translate_once = λ t rs₀ ps₀ ns₀ ls₀ bytes₀ rs ps ns ls rs' ps' ns' ls' bytes bytes' r r' a b. once.translate_once a b
