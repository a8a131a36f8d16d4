-- For the code: what a range line declares.
use Rattle.std.specs.Prelude as code
use Rattle.std.specs.Prelude.{Some, None}
use Rattle.std.proofs.Math.Option.{Option, none, some}
use Rattle.sheet.specs.Grammar.{Line, ranged, default, must, when}
use Rattle.sheet.specs.declared.Declaration.{Declaration}
use Rattle.sheet.specs.declared.Declaration.TheVariants.{Plain, Ranged}

-- what a range line declares, if it is one: a name without a range, or with one
abbrev pub declaration_of : Option Line → code.Option Declaration
declaration_of none = None
declaration_of (some (default n)) = Some (Plain n)
declaration_of (some (ranged n low high)) = Some (Ranged n low high)
declaration_of (some (must d ds)) = None
declaration_of (some (when c cs d ds)) = None
