-- For the code: what reading an expression writes into lists of fixed size. Everything is total: a number that has no place is not
-- written, counts stop at a limit above every size that is accepted, and a range that cannot be computed with is replaced by [0, 0].
-- proofs/ExactPiece.antt ties this to Translation.antt for sheets within the grounds.
use Rattle.std.specs.Prelude as code
use Rattle.std.specs.Prelude.{◌≡◌, cond, ◌||◌, List, [], ◌∷◌, ℕ, ◌+◌, ◌*◌, ◌≤◌, ◌<◌, leb, ltb, ℤ, pos, length, set, Some, None}
use Rattle.std.proofs.Math.Option.{Option, none, some}
use Rattle.whole.specs.Ranges.{range, square_span}
use Rattle.whole.specs.inner.Held.{Good}
use Rattle.whole.specs.declared.Range.{Range}
use Rattle.problem.specs.Problem.{range_at}
use Rattle.problem.specs.Grounds.{bad_range}
use Rattle.problem.specs.declared.Primitive.{Primitive}
use Rattle.problem.specs.declared.Primitive.TheVariants.{Sum, Product, Square}
use Rattle.problem.specs.declared.Literal.{Literal}
use Rattle.problem.specs.declared.Literal.TheVariants.{AtMost, AtLeast}
use Rattle.sheet.specs.Grammar.{Line}
use Rattle.sheet.specs.Reading.{Read}
use Rattle.sheet.specs.inner.Steps.{tokens_from}
use Rattle.sheet.specs.declared.Token.{Token}
use Rattle.sheet.specs.declared.Sign.{Sign}
use Rattle.meaning.specs.Plain.{Operation, Tree, constant, quantity, binary, square, Asked, asks_of}
use Rattle.meaning.specs.Translation.{span_for, equation, gap_of, first, second, literals_for, equal}
use Rattle.lines.specs.declared.parts.Making.{Making}
use Rattle.lines.specs.declared.parts.Held.{Held}
use Rattle.lines.specs.declared.parts.Emitted.{Emitted}
use Rattle.lines.specs.declared.parts.Made.{Made}
use Rattle.lines.specs.declared.parts.Tally.{Tally}

-- one more, up to the limit
abbrev pub bump : ℕ → ℕ
bump n = cond (ltb n 10_000) (n + 1) n

-- a range that can be computed with
abbrev pub kept : Range → Range
kept r = cond (bad_range r.low r.high) (range (pos 0) (pos 0)) r

pub record Keeps (r s : Range) : Type 0 where
  pub is : s ≡ kept r
  pub good : Good s

-- the range of quantity i, the numbers of primitive i, and of literal i
unfoldable pub put_range : List ℤ → ℕ → Range → List ℤ
put_range l i r = cond (ltb i 128) (set (set l (2 * i) r.low) (2 * i + 1) r.high) l

unfoldable pub put_four : List ℤ → ℕ → ℤ → ℤ → ℤ → ℤ → List ℤ
put_four l i k z x y =
    cond (ltb i 256) (set (set (set (set l (4 * i) k) (4 * i + 1) z) (4 * i + 2) x) (4 * i + 3) y) l

-- a number that is written as it is, if it is one that can be accepted
abbrev pub small : ℕ → ℕ
small n = cond (ltb n 20_000) n 0

abbrev pub put_primitive : List ℤ → ℕ → Primitive → List ℤ
put_primitive l i (Sum z x y) = put_four l i (pos 1) (pos (small z)) (pos (small x)) (pos (small y))
put_primitive l i (Product z x y) = put_four l i (pos 2) (pos (small z)) (pos (small x)) (pos (small y))
put_primitive l i (Square z x) = put_four l i (pos 3) (pos (small z)) (pos (small x)) (pos 0)

unfoldable pub put_three : List ℤ → ℕ → ℤ → ℤ → ℤ → List ℤ
put_three l i q s c = cond (ltb i 1024) (set (set (set l (3 * i) q) (3 * i + 1) s) (3 * i + 2) c) l

abbrev pub put_literal : List ℤ → ℕ → Literal → List ℤ
put_literal l i (AtMost q c) = put_three l i (pos (small q)) (pos 0) c
put_literal l i (AtLeast q c) = put_three l i (pos (small q)) (pos 1) c

-- the lists, the counts and flags, and the quantity in hand with its range
pub record Emit : Type 0 where
  pub ranges : List ℤ
  pub primitives : List ℤ
  pub making : Making
  pub held : Held

-- what the code's own answer says was written
abbrev pub emitted_as : Emitted → List ℤ → List ℤ → Emit
emitted_as e rs ps = record { ranges = rs; primitives = ps; making = e.making; held = e.held }

-- the code's own answer is this, and its range can be computed with
pub record Emits (e : Emit) (r : Emitted) (rs ps : List ℤ) : Type 0 where
  pub is : emitted_as r rs ps ≡ e
  pub good : Good r.held.span

-- a helper more, of this range: it is in hand
abbrev pub another : Range → List ℤ → List ℤ → ℕ → Making → Emit
another s rs ps count m =
    record {
      ranges = put_range rs m.used (kept s);
      primitives = ps;
      making = record { used = bump m.used; count = count; unknown = m.unknown; wide = m.wide || bad_range s.low s.high };
      held = record { place = m.used; span = kept s };
    }

-- a helper with its primitive
abbrev pub operated : Range → Primitive → List ℤ → List ℤ → Making → Emit
operated s p rs ps m = another s rs (put_primitive ps m.count p) (bump m.count) m

abbrev pub joined : Operation → Held → Emit → Emit
joined o a e =
    operated (span_for o a.span e.held.span) (equation o e.making.used a.place e.held.place) e.ranges e.primitives e.making

abbrev pub squared_of : Emit → Emit
squared_of e = operated (square_span e.held.span) (Square e.making.used e.held.place) e.ranges e.primitives e.making

-- what a tree writes, where d quantities are declared
unfoldable pub emit : ℕ → Tree → List ℤ → List ℤ → Making → Emit
emit d (constant n) rs ps m = another (range (pos n) (pos n)) rs ps m.count m
emit d (quantity q) rs ps m =
    record {
      ranges = rs;
      primitives = ps;
      making = record { used = m.used; count = m.count; unknown = m.unknown || leb d q; wide = m.wide };
      held = record { place = q; span = kept (range_at rs q) };
    }
emit d (binary o a b) rs ps m =
    let x = emit d a rs ps m in joined o x.held (emit d b x.ranges x.primitives x.making)
emit d (square a) rs ps m = squared_of (emit d a rs ps m)

-- a reading, with its tree written out
abbrev pub emitted : {A B : Type 0} → (A → B) → Read A → Option (B × List Token)
emitted f none = none
emitted f (some p) = some (f p.0, p.1)

-- what the code's answer says was written and is left
abbrev pub made_as : List ℕ → code.Option Made → List ℤ → List ℤ → Option (Emit × List Token)
made_as l (Some m) rs ps = some (emitted_as m.emitted rs ps, tokens_from l m.next)
made_as l None rs ps = none

-- a span that can be computed with
abbrev pub GoodHeld : Held → Type 0
GoodHeld h = Good h.span

pub record Makes
    {A : Type 0} (f : ℕ → List Token → Read A) (plain : A → Tree) (rank d : ℕ) (l : List ℕ) (at : ℕ) (m : Making) (rs ps : List ℤ)
    (r : code.Option Made) (rs' ps' : List ℤ) : Type 0 where
  pub agrees : (k : ℕ) → 8 * length (tokens_from l at) + rank ≤ k → made_as l r rs' ps' ≡ emitted (λ a. emit d (plain a) rs ps m) (f k (tokens_from l at))
  pub falls : (m' : Made) → r ≡ Some m' → length (tokens_from l m'.next) < length (tokens_from l at)
  pub good : (m' : Made) → r ≡ Some m' → GoodHeld m'.emitted.held

-- ---- comparisons: what they write into the lists, and their literals into two clauses, as many in the one as in the other
pub record Listing : Type 0 where
  pub ranges : List ℤ
  pub primitives : List ℤ
  pub firsts : List ℤ
  pub seconds : List ℤ
  pub making : Making
  pub count : ℕ
  pub equals : ℕ

unfoldable pub put_literals : List ℤ → ℕ → List Literal → List ℤ
put_literals l i [] = l
put_literals l i (x ∷ xs) = put_literals (put_literal l i x) (bump i) xs

unfoldable pub count_literals : ℕ → List Literal → ℕ
count_literals i [] = i
count_literals i (x ∷ xs) = count_literals (bump i) xs

-- one equality demand more, up to two
abbrev pub more_equals : ℕ → ℕ → ℕ
more_equals n e = cond (ltb n 2) (n + e) n

abbrev pub listed : Sign → Emit → Listing → Listing
listed s e a =
    record {
      ranges = e.ranges;
      primitives = e.primitives;
      firsts = put_literals a.firsts a.count (literals_for first s e.held.place);
      seconds = put_literals a.seconds a.count (literals_for second s e.held.place);
      making = e.making;
      count = count_literals a.count (literals_for first s e.held.place);
      equals = more_equals a.equals (equal s);
    }

unfoldable pub list_all : ℕ → List Asked → Listing → Listing
list_all d [] a = a
list_all d (x ∷ xs) a = list_all d xs (listed x.sign (emit d (gap_of x) a.ranges a.primitives a.making) a)

-- ---- rules: what the code's answer says was listed
abbrev pub ruled_as : code.Option Tally → List ℤ → List ℤ → List ℤ → List ℤ → Option Listing
ruled_as (Some t) rs ps fs ss =
    some (record { ranges = rs; primitives = ps; firsts = fs; seconds = ss; making = t.making; count = t.count; equals = t.equals })
ruled_as None rs ps fs ss = none

abbrev pub listed_from : List ℕ → Listing → Option Line → Option Listing
listed_from names a none = none
listed_from names a (some l) = some (list_all (length names) (asks_of names l) a)

-- the answer is the reading f of a rule, at every bound that is large enough, with its comparisons listed
pub record Rules (f : ℕ → Option Line) (names : List ℕ) (size : ℕ) (a : Listing) (r : code.Option Tally) (rs ps fs ss : List ℤ) : Type 0 where
  pub agrees : (k : ℕ) → 8 * size + 8 ≤ k → ruled_as r rs ps fs ss ≡ listed_from names a (f k)
