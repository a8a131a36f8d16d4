-- What is printed of an accepted sheet holds for it: of the solver's grounds only the workspace can refuse it, and an answer is right for the problem, which says
-- the same as the sheet.
use mathlib.Core.Path.{◌≡◌, refl, sym, ap, ap₂, subst, ◌∙◌}
use mathlib.Core.Bool.{Bool, true, false, not, cond, ◌||◌}
use mathlib.Core.Logic.{◌⊎◌, inl, inr}
use mathlib.Core.List.{List, ◌++◌}
use Prim.Native.Nat.{ℕ, ◌-◌, ◌<◌, ◌≤◌}
use Prim.Native.String.{String}
use native.Mathlib.Omega.{arith}
use lib.Dec.{ltb}
use lib.IntN.{ℤ, pos}
use lib.ListN.{length, take, length-replicate}
use lib.Seq.{length-take-le}
use borrow.Author.Tests.{eq-eqb, ltb-true}
use Rattle.problem.specs.Problem.{Problem, quantities}
use Rattle.problem.specs.declared.Refusal.TheVariants.{Room}
use Rattle.std.specs.Prelude.{Ok, Err}
use Rattle.search.specs.Search.{Outcome, stopped, found, none, search_of}
use Rattle.search.specs.Depth.{room_of}
use Rattle.search.specs.Solve.{Judged, bad_room, judged, lows, answered, result_of, point_of, unless, cleared, Solves}
use Rattle.search.specs.Demand2.{Right, point_at}
use Rattle.search.specs.declared.Answer.TheVariants as answer
use Rattle.search.proofs.Answered.{sound_right}
use Rattle.search.proofs.PointLength.{point_long}
use Rattle.sheet.specs.Text.{bytes}
use Rattle.sheet.specs.Grammar.{Line}
use Rattle.sheet.specs.Meaning.{Obeys}
use Rattle.meaning.specs.Draft.{Draft, blank, quantities_in, declared_in, problem_in}
use Rattle.meaning.specs.Grounds.{top_in, outcome_of, read}
use Rattle.meaning.specs.Demand3.{Faithful}
use Rattle.meaning.proofs.LineInduction.{names_declared}
use Rattle.meaning.proofs.Demand3.{SoFar, text_trees, faithful, counted}
use Rattle.meaning.proofs.Fits.{fits, accepted_sound, accepted_leads, read_back}
use Rattle.meaning.proofs.TextGrounds.{grounds_back}
use Rattle.answer.specs.Output.{count_line, value_lines, answer_lines, range_list_of, primitive_list_of, length_list_of, literal_list_of, desk_budget, desk_work, desk_point, solved_of}
use Rattle.answer.specs.Sheets.{by_point, NoneObeysBefore, Means}
use Rattle.answer.specs.Said.{Sheet, Prints, SaysNone, SaysFound, SaysStop, TooWide, SaysRefused}
use Rattle.answer.proofs.SheetAnswers.{means}
use Rattle.answer.proofs.Values.{lines_front, front_extends, front_before}

-- one of the four
abbrev pub Kind : List ℕ → List ℕ → Type 0
Kind t out = SaysNone t out ⊎ (SaysFound t out ⊎ (SaysStop t out ⊎ SaysRefused t out))

module _ (t : List ℕ) (s : Draft) (e : outcome_of t ≡ read s) where
  abbrev verdict : Judged
  verdict = judged (range_list_of s) (primitive_list_of s) (length_list_of s) (literal_list_of s) (pos (length s.declared)) (pos desk_budget) (desk_point s) desk_work

  abbrev outcome : Outcome
  outcome = search_of (problem_in s) desk_budget

  -- ---- the sheet
  trees : List Line
  trees = (text_trees t s e).0

  sheet : Sheet t trees
  unfolding trees
  sheet =
      record {
        spelt = (text_trees t s e).1;
        unrefused = λ g k h.
            let b = (grounds_back t h).2 in
            absurd (let z : ◌≡◌ {A = ℕ} 0 1 = cc in omega arith);
      }

  made : SoFar (top_in t) trees s
  unfolding trees
  made = (text_trees t s e).2

  named : s.names ≡ declared_in trees
  named = ap (λ (u : Draft). u.names) made.made ∙ names_declared (top_in t) blank trees

  many : length s.declared ≡ length (declared_in trees)
  many = sym (fits t s e).many ∙ ap length named

  same : Faithful (top_in t) trees s.names (problem_in s)
  same = faithful (top_in t) trees s made.kept (fits t s e).distinct

  -- ---- the workspace
  point_has : length (desk_point s) ≡ quantities (range_list_of s)
  point_has = length-replicate (quantities_in s) (pos 0) ∙ sym (counted s)

  room_test : bad_room (pos (length s.declared)) (range_list_of s) (desk_point s) desk_work ≡ ltb 8_192 (room_of (length s.declared) (range_list_of s))
  room_test =
      ap₂ (λ (b : Bool) (n : ℕ). not b || ltb n (room_of (length s.declared) (range_list_of s))) (eq-eqb (length (desk_point s)) (quantities (range_list_of s)) point_has) (length-replicate 8_192 (pos 0))

  verdict_is : verdict ≡ cond (ltb 8_192 (room_of (length s.declared) (range_list_of s))) (Err Room) (Ok tt)
  unfolding judged
  verdict_is = rw (accepted_sound t s e, accepted_leads t s e, room_test)

  wide : ltb 8_192 (room_of (length s.declared) (range_list_of s)) ≡ true → TooWide t 7 0
  wide h =
      record {
        ground = refl;
        line = refl;
        trees = trees;
        sheet = sheet;
        room = subst (λ (u : Draft). 8_192 < room_of (length (declared_in trees)) (problem_in u).ranges) made.made (subst (λ (k : ℕ). 8_192 < room_of k (range_list_of s)) many (ltb-true 8_192 (room_of (length s.declared) (range_list_of s)) h));
      }

  -- ---- the answer
  module _ (sound : verdict ≡ Ok tt) where
    solves : Solves (range_list_of s) (primitive_list_of s) (length_list_of s) (literal_list_of s) (pos (length s.declared)) (pos desk_budget) (desk_point s) desk_work (point_of outcome (desk_point s)) (cleared (room_of (length s.declared) (range_list_of s)) desk_work) (Ok (answered desk_budget outcome))
    solves =
        record {
          result = ap₂ (λ (j : Judged) (b : Problem). result_of j desk_budget (search_of b desk_budget)) (sym sound) (sym (read_back s));
          point = ap₂ (λ (j : Judged) (b : Problem). unless j (point_of (search_of b desk_budget) (desk_point s)) (desk_point s)) (sym sound) (sym (read_back s));
          work = ap (λ (j : Judged). unless j (cleared (room_of (length s.declared) (range_list_of s)) desk_work) desk_work) (sym sound);
        }

    right : Right (problem_in s) desk_budget (answered desk_budget outcome).answer (answered desk_budget outcome).sweeps (point_of outcome (desk_point s))
    right =
        let a = sound_right solves sound in
        let same : a.0 ≡ answered desk_budget outcome = cc in
        rw (sym same) (rw (read_back s) at a.2)

    says : Means (top_in t) trees s.names (answered desk_budget outcome).answer (point_of outcome (desk_point s))
    says = means t s e trees same right

    long : length s.names ≤ length (point_of outcome (desk_point s))
    long =
        let l = point_long (range_list_of s) (primitive_list_of s) (length_list_of s) (literal_list_of s) (accepted_sound t s e) desk_budget (desk_point s) point_has in
        let m = subst (λ (b : Problem). length (point_of (search_of b desk_budget) (desk_point s)) ≡ quantities (range_list_of s)) (read_back s) l in
        omega (arith, m, counted s, (fits t s e).within)

    module _ (c : List ℤ) (p : point_of outcome (desk_point s) ≡ lows c) where
      values : List ℤ
      values = take (length (declared_in trees)) (lows c)

      printed : (w : String) (k : ℕ) → Prints w (declared_in trees) values (count_line (bytes w) k ++ value_lines s.names (lows c))
      unfolding values
      printed w k =
          record {
            sweeps = k;
            each = length-take-le (length (declared_in trees)) (lows c) (rw (sym named, sym p) long);
            whole =
                ap (λ (ns : List ℕ). count_line (bytes w) k ++ value_lines ns (lows c)) named
                ∙ ap (λ (l : List ℕ). count_line (bytes w) k ++ l) (sym (lines_front (declared_in trees) (lows c)));
          }

      obeys : (answered desk_budget outcome).answer ≡ answer.Found → Obeys (top_in t) (by_point (declared_in trees) values) trees
      unfolding values
      obeys h =
          rw (sym named)
          (same.every _ (point_at (lows c)) (front_extends s.names (fits t s e).distinct (lows c)) (rw p at (right.found h).satisfies))

      unless_before : NoneObeysBefore (top_in t) trees s.names (point_of outcome (desk_point s)) → NoneObeysBefore (top_in t) trees (declared_in trees) values
      unfolding values
      unless_before h = rw (sym named) (front_before (top_in t) trees s.names (lows c) (rw p at h))

    kind : (o : Outcome) → outcome ≡ o → Kind t (answer_lines (answered desk_budget o).answer (answered desk_budget o).sweeps s.names (point_of o (desk_point s)))
    kind (none left) h =
        inl (record { trees = trees; sheet = sheet; sweeps = desk_budget - left; whole = refl; none = says.none (ap (λ (o : Outcome). (answered desk_budget o).answer) h) })
    kind (found c ws left) h =
        let a = ap (λ (o : Outcome). (answered desk_budget o).answer) h in
        let p = ap (λ (o : Outcome). point_of o (desk_point s)) h in
        inr (inl (record { trees = trees; sheet = sheet; values = values c p; printed = printed c p "FOUND" (desk_budget - left); obey = obeys c p a; first = unless_before c p (says.smallest a) }))
    kind (stopped c ws) h =
        let a = ap (λ (o : Outcome). (answered desk_budget o).answer) h in
        let p = ap (λ (o : Outcome). point_of o (desk_point s)) h in
        inr (inr (inl (record { trees = trees; sheet = sheet; values = values c p; printed = printed c p "STOP" desk_budget; floor = unless_before c p (says.floor a) })))

  pub sheet_says : Kind t (solved_of s)
  unfolding solved_of
  sheet_says = by (ltb 8_192 (room_of (length s.declared) (range_list_of s))) refl
    where
      by : (b : Bool) → ltb 8_192 (room_of (length s.declared) (range_list_of s)) ≡ b → Kind t (solved_of s)
      by true h =
          let r : verdict ≡ Err Room = verdict_is ∙ rw h in
          rw r (inr (inr (inr (record { ground = 7; line = 0; whole = refl; met = inr (wide h) }))))
      by false h =
          let r : verdict ≡ Ok tt = verdict_is ∙ rw h in
          rw r (kind r outcome refl)
