-- The output fits 4,096 bytes: a line for each of at most 128 names of at most 8 letters, with a value of at most 21 bytes, behind a first line that is short.
use mathlib.Core.Path.{◌≡◌, refl, ap}
use mathlib.Core.List.{List, [], ◌∷◌, ◌++◌}
use Prim.Native.Nat.{ℕ, ◌+◌, ◌-◌, ◌*◌, ◌≤◌}
use native.Mathlib.Omega.{arith}
use lib.IntN.{ℤ, pos}
use lib.ListN.{length, drop, replicate, length-append}
use Rattle.std.specs.Prelude.{Result, Ok, Err}
use Rattle.problem.specs.Grounds.{refusal_number}
use Rattle.problem.specs.declared.Refusal.{Refusal}
use Rattle.search.specs.Search.{search_of}
use Rattle.search.specs.Solve.{judged, result_of, unless, point_of}
use Rattle.search.specs.declared.Answer.{Answer}
use Rattle.search.specs.declared.Answer.TheVariants.{None, Found, Stopped}
use Rattle.search.specs.declared.Solved.{Solved}
use Rattle.meaning.specs.Lists.{range_list, primitive_list, length_list, literals_in, literal_list, letters_of}
use Rattle.meaning.specs.Draft.{Draft, problem_in}
use Rattle.meaning.specs.Grounds.{Outcome, refused, read, outcome_of}
use Rattle.meaning.specs.Grounds as sheet
use Rattle.meaning.proofs.FlatLists.{padded_length}
use Rattle.meaning.proofs.Fits.{fits}
use Rattle.sheet.specs.Text.{bytes}
use Rattle.answer.specs.Output.{value_line, value_lines, refused_line, count_line, answer_lines, solve_lines, desk_budget, desk_work, desk_point, solved_of, printed, output_of, Answers}
use Rattle.answer.specs.inner.Writing.{Puts}
use Rattle.answer.proofs.Writing.{puts_front}
use Rattle.answer.proofs.Decimal.{digits_few, value_few}

name_short : (n : ℕ) → length (letters_of 8 n) ≤ 8
name_short n = omega (arith, padded_length n, length-append (letters_of 8 n) (replicate (8 - length (letters_of 8 n)) 32))

line_short : (n : ℕ) (z : ℤ) → length (value_line n z) ≤ 31
line_short n z = simp length-append (omega (arith, name_short n, value_few z))

lines_short : (ns : List ℕ) (zs : List ℤ) → length (value_lines ns zs) ≤ 31 * length ns
unfolding value_lines
lines_short [] zs = omega arith
lines_short (n ∷ ns) [] = omega arith
lines_short (n ∷ ns) (z ∷ zs) = omega (arith, length-append (value_line n z) (value_lines ns zs), line_short n z, lines_short ns zs)

refused_short : (g k : ℕ) → length (refused_line g k) ≤ 50
refused_short g k = simp length-append (omega (arith, digits_few 19 g, digits_few 19 k))

count_short : (word : List ℕ) (k : ℕ) → length (count_line word k) ≤ length word + 22
count_short word k = simp length-append (omega (arith, digits_few 19 k))

answer_short : (a : Answer) (k : ℕ) (ns : List ℕ) (zs : List ℤ) → length (answer_lines a k ns zs) ≤ 50 + 31 * length ns
answer_short None k ns zs = omega (arith, count_short (bytes "NONE") k)
answer_short Found k ns zs = omega (arith, length-append (count_line (bytes "FOUND") k) (value_lines ns zs), count_short (bytes "FOUND") k, lines_short ns zs)
answer_short Stopped k ns zs = omega (arith, length-append (count_line (bytes "STOP") k) (value_lines ns zs), count_short (bytes "STOP") k, lines_short ns zs)

reports_short : (r : Result Solved Refusal) (ns : List ℕ) (zs : List ℤ) → length (solve_lines r ns zs) ≤ 50 + 31 * length ns
reports_short (Ok s) ns zs = answer_short s.answer s.sweeps ns zs
reports_short (Err g) ns zs = omega (arith, refused_short (refusal_number g) 0)

solved_short : (s : Draft) → length (solved_of s) ≤ 50 + 31 * length s.names
unfolding solved_of
solved_short s =
    let j = judged (range_list (s.declared ++ s.made.ranges)) (primitive_list s.made.primitives) (length_list s.made.clauses) (literal_list (literals_in s.made.clauses)) (pos (length s.declared)) (pos desk_budget) (desk_point s) desk_work in
    let o = search_of (problem_in s) desk_budget in
    let r = result_of j desk_budget o in
    reports_short r s.names (unless j (point_of o (desk_point s)) (desk_point s))

pub output_short : (t : List ℕ) → length (output_of t) ≤ 4096
unfolding output_of
output_short t = go (outcome_of t) refl
  where
    go : (o : Outcome) → outcome_of t ≡ o → length (printed o) ≤ 4096
    go (refused g k) e = omega (arith, refused_short (sheet.refusal_number g) k)
    go (read s) e = omega (arith, solved_short s, (fits t s e).names)

-- so what is put from the start of a buffer of 4,096 bytes is the whole output
pub answers : (t l l' : List ℕ) (r : ℕ) → length l ≡ 4096 → Puts (output_of t) l 0 l' r → Answers t l r l'
answers t l l' r e h = let f = puts_front h (omega (arith, output_short t)) in record { long = f.0; front = f.1 }
