-- A rule line: the listing that was read belongs to the tree of the tokens, so its flags tell the grounds, and where none is met the lists hold the sheet with
-- the rule.
use mathlib.Core.Path.{◌≡◌, refl, ap, subst, ◌∙◌}
use mathlib.Core.Bool.{Bool, true, false, cond}
use mathlib.Core.List.{List, ◌++◌, append-nil, append_assoc}
use mathlib.Core.Option.{Option, none, some}
use Prim.Native.Nat.{ℕ, ◌+◌, ◌-◌, ◌*◌, ◌≤◌, ◌<◌}
use native.Mathlib.Omega.{arith}
use lib.Dec.{eqb}
use lib.IntN.{ℤ}
use lib.ListN.{length, take}
use borrow.Author.Tests.{lt-ltb, le-ltb}
use borrow.Rule.Slice.PartMut.{mid_of, put_mid, mid_len, same_len_mid}
use Rattle.std.specs.Prelude.{Some, Ok, Err}
use Rattle.sheet.specs.Grammar.{Comparison, Line, must, when}
use Rattle.sheet.specs.Reading.{Read, as_must, as_when, «whole», all_f, then_of, head_no, rest_of}
use Rattle.sheet.specs.declared.Token.{Token}
use Rattle.meaning.specs.Plain.{asks_of}
use Rattle.meaning.specs.Draft.{Draft, rule}
use Rattle.meaning.specs.Grounds.{tree_fault, read, top_of}
use Rattle.meaning.specs.declared.Refusal.{Refusal}
use Rattle.meaning.specs.declared.Refusal.TheVariants as refusal
use Rattle.lines.specs.declared.parts.Progress.{Progress}
use Rattle.lines.specs.declared.parts.Tally.{Tally}
use Rattle.lines.specs.inner.Emission.{Listing, list_all, listed_from, Rules}
use Rattle.lines.specs.inner.Comparisons.{listing_of}
use Rattle.lines.specs.inner.Stored.{Stored, Proper, Full, Answers, tree_by, rule_f, clauses_for, Appended, Roomy}
use Rattle.lines.proofs.Flags.{IsRule}
use Rattle.lines.proofs.Filling.{part_front}
use Rattle.lines.proofs.HeldRoom.{room}
use Rattle.lines.proofs.RuleDraft.{after_rule, proper_rule}
use Rattle.lines.proofs.RuleListed.{start_of, listed_of, Added, Listed, rule_listed}
use Rattle.lines.proofs.RuleHeld.{fault_of, fault_is, accepted, Advanced, stored_one, stored_two}

-- ---- rules are read
must_rule : (o : Option (Comparison × List Comparison)) (x : Line) → as_must o ≡ some x → IsRule x
must_rule none x e = absurd (let z : ◌≡◌ {A = ℕ} 0 1 = cc in omega arith)
must_rule (some p) x e = let f : must p.0 p.1 ≡ x = cc in subst IsRule f tt

when_rule : (c : Comparison × List Comparison) (o : Option (Comparison × List Comparison)) (x : Line) → as_when c o ≡ some x → IsRule x
when_rule c none x e = absurd (let z : ◌≡◌ {A = ℕ} 0 1 = cc in omega arith)
when_rule c (some d) x e = let f : when c.0 c.1 d.0 d.1 ≡ x = cc in subst IsRule f tt

then_rule : (k : ℕ) (r : Read (Comparison × List Comparison)) (x : Line) → then_of k r ≡ some x → IsRule x
then_rule k none x e = absurd (let z : ◌≡◌ {A = ℕ} 0 1 = cc in omega arith)
then_rule k (some p) x e = by (eqb (head_no p.1) 19) e
  where
    by : (t : Bool) → cond t (as_when p.0 («whole» (all_f k 21 (rest_of p.1)))) none ≡ some x → IsRule x
    by true f = when_rule p.0 («whole» (all_f k 21 (rest_of p.1))) x f
    by false f = absurd (let z : ◌≡◌ {A = ℕ} 0 1 = cc in omega arith)

is_rule : (b : Bool) (k : ℕ) (ts : List Token) (x : Line) → rule_f b k ts ≡ some x → IsRule x
is_rule true k ts x e = then_rule k (all_f k 20 ts) x e
is_rule false k ts x e = must_rule («whole» (all_f k 21 ts)) x e

-- ---- what the answer says of the tree
record Heard (o : Option Line) (names : List ℕ) (a b : Listing) : Type 0 where
  line : Line
  tree : o ≡ some line
  listing : b ≡ list_all (length names) (asks_of names line) a

heard : (o : Option Line) (names : List ℕ) (a b : Listing) → some b ≡ listed_from names a o → Heard o names a b
heard none names a b e = absurd (let z : ◌≡◌ {A = ℕ} 0 1 = cc in omega arith)
heard (some l) names a b e = record { line = l; tree = refl; listing = cc }

-- what stands behind the earlier literals
abbrev pub behind_of : Progress → List ℤ → List ℤ
behind_of g ls = mid_of (3 * g.literals) (3072 - 3 * g.literals) ls

-- b is whether the rule has an if part, ts its tokens behind the first; the firsts go behind the earlier literals, the seconds into a list of their own
module _ (version : ℕ) (b : Bool) (ts : List Token) (g : Progress) (rs ps ns ls : List ℤ) (keys : List ℕ) (ss : List ℤ) where
  module _ (full : Full rs ps ns ls keys) (long : length ss ≡ 768) (t : Tally) (rs' ps' fs' ss' : List ℤ) (h : Rules (λ k. rule_f b k ts) (take g.declared keys) (length ts) (start_of g rs ps (behind_of g ls) ss) (Some t) rs' ps' fs' ss') (n : ℕ) (l : 8 * length ts + 8 ≤ n) where
    tree : Heard (rule_f b n ts) (take g.declared keys) (start_of g rs ps (behind_of g ls) ss) (listing_of t rs' ps' fs' ss')
    tree = heard (rule_f b n ts) (take g.declared keys) (start_of g rs ps (behind_of g ls) ss) (listing_of t rs' ps' fs' ss') (h.agrees n l)

    a_rule : IsRule tree.line
    a_rule = is_rule b n ts tree.line tree.tree

    -- the listing tells the grounds, whatever sheet is held
    told : (s : Draft) → Stored s g rs ps ns ls keys → Proper s → Listed s tree.line g (start_of g rs ps (behind_of g ls) ss) (listing_of t rs' ps' fs' ss')
    told s i p =
        let x = tree.line in
        let r = room i p in
        let f = mid_len (3 * g.literals) 3072 ls (omega (arith, full.literals)) in
        let q : listing_of t rs' ps' fs' ss' ≡ listed_of s x g rs ps (behind_of g ls) ss = rw i.key_front at tree.listing in
        rw q (rule_listed i p x a_rule (behind_of g ls) ss full.ranges full.primitives (omega (arith, f, full.literals, r.literals)) (omega arith))

    -- so a ground that they tell is the outcome
    faulty : (rs'' ps'' ns'' ls'' : List ℤ) (keys'' : List ℕ) (refusal : Refusal) → fault_of (listing_of t rs' ps' fs' ss') ≡ some refusal → Answers (tree_by version (rule_f b n ts)) g rs ps ns ls keys rs'' ps'' ns'' ls'' keys'' (Err refusal)
    faulty rs'' ps'' ns'' ls'' keys'' refusal f =
        record {
          says = λ s k i p.
              let x = tree.line in
              let q : tree_fault (top_of version) s x ≡ some refusal = fault_is (told s i p) a_rule (top_of version) ∙ f in
              rw (tree.tree, q);
        }

    -- 25
    pub rule_names : (rs'' ps'' ns'' ls'' : List ℤ) (keys'' : List ℕ) → t.making.unknown ≡ true → Answers (tree_by version (rule_f b n ts)) g rs ps ns ls keys rs'' ps'' ns'' ls'' keys'' (Err refusal.Names)
    rule_names rs'' ps'' ns'' ls'' keys'' u = faulty rs'' ps'' ns'' ls'' keys'' refusal.Names (rw u)

    module _ (u : t.making.unknown ≡ false) where
      -- 27
      pub rule_equalities : (rs'' ps'' ns'' ls'' : List ℤ) (keys'' : List ℕ) → 1 < t.equals → Answers (tree_by version (rule_f b n ts)) g rs ps ns ls keys rs'' ps'' ns'' ls'' keys'' (Err refusal.Equalities)
      rule_equalities rs'' ps'' ns'' ls'' keys'' q = faulty rs'' ps'' ns'' ls'' keys'' refusal.Equalities (rw (u, lt-ltb 1 t.equals q))

      module _ (q : t.equals ≤ 1) where
        -- 28
        pub rule_beyond : (rs'' ps'' ns'' ls'' : List ℤ) (keys'' : List ℕ) → t.making.wide ≡ true → Answers (tree_by version (rule_f b n ts)) g rs ps ns ls keys rs'' ps'' ns'' ls'' keys'' (Err refusal.Beyond)
        rule_beyond rs'' ps'' ns'' ls'' keys'' w = faulty rs'' ps'' ns'' ls'' keys'' refusal.Beyond (rw (u, le-ltb 1 t.equals q, w))

        module _ (w : t.making.wide ≡ false) where
          -- 29
          pub rule_many : (rs'' ps'' ns'' ls'' : List ℤ) (keys'' : List ℕ) → 128 < t.making.used → Answers (tree_by version (rule_f b n ts)) g rs ps ns ls keys rs'' ps'' ns'' ls'' keys'' (Err refusal.Many)
          rule_many rs'' ps'' ns'' ls'' keys'' v = faulty rs'' ps'' ns'' ls'' keys'' refusal.Many (rw (u, le-ltb 1 t.equals q, w, lt-ltb 128 t.making.used v))

          -- none: the clauses have room
          module _ (v : t.making.used ≤ 128) (kept : length fs' ≡ length (behind_of g ls)) where
            with_rule : (s : Draft) → Stored s g rs ps ns ls keys → Proper s → Added s tree.line g (listing_of t rs' ps' fs' ss')
            with_rule s i p = accepted (told s i p) u w v

            pub rule_room : (s : Draft) → Stored s g rs ps ns ls keys → Proper s → length ss' ≡ 768 → Roomy g t.count ns (put_mid (3 * g.literals) (3072 - 3 * g.literals) ls fs') ss'
            rule_room s i p o =
                let a = with_rule s i p in
                let r = room i p in
                record {
                  clauses = omega (arith, a.clauses_room, full.lengths);
                  literals = omega (arith, a.literals_room, full.literals, same_len_mid (3 * g.literals) (3072 - 3 * g.literals) ls fs' kept);
                  second = omega (arith, a.literals_few);
                  small = a.literals_few;
                  few = r.literals;
                }

            -- and the lists hold the sheet with the rule
            module _ (ns'' ls'' : List ℤ) (g'' : Progress) (d : Appended g t.making t.count t.equals ns (put_mid (3 * g.literals) (3072 - 3 * g.literals) ls fs') ss' ns'' ls'' g'') where
              advanced : (k : ℕ) → clauses_for t.equals ≡ k → Advanced g (listing_of t rs' ps' fs' ss') k g''
              advanced k f =
                  record {
                    declared = d.declared;
                    quantities = d.quantities;
                    primitives = d.primitives;
                    clauses = rw f at d.clauses;
                    literals = rw f at d.literals;
                    ruled = d.ruled;
                  }

              -- the first literals stand behind the earlier ones
              first_front : (s : Draft) → Stored s g rs ps ns ls keys → Proper s → take (3 * (g.literals + t.count)) (put_mid (3 * g.literals) (3072 - 3 * g.literals) ls fs') ≡ take (3 * g.literals) ls ++ take (3 * t.count) fs'
              first_front s i p =
                  let a = with_rule s i p in
                  let r = room i p in
                  let f = mid_len (3 * g.literals) 3072 ls (omega (arith, full.literals)) in
                  let j : 3 * (g.literals + t.count) ≡ 3 * g.literals + 3 * t.count = omega arith in
                  rw j (part_front (3 * g.literals) (3072 - 3 * g.literals) (3 * t.count) ls fs' (omega (arith, full.literals, r.literals)) (omega (arith, a.literals_few, full.literals, r.literals)))

              store : (s : Draft) → Stored s g rs ps ns ls keys → Proper s → (b : Bool) → eqb t.equals 0 ≡ b → Stored (rule s tree.line) g'' rs' ps' ns'' ls'' keys
              store s i p true f =
                  let o : clauses_for t.equals ≡ 1 = rw f in
                  let y : take (3 * g''.literals) ls'' ≡ take (3 * g.literals) ls ++ take (3 * t.count) fs' = (rw f at d.literal_front) ∙ append-nil _ ∙ first_front s i p in
                  stored_one i (with_rule s i p) ns'' ls'' f (advanced 1 o) (rw f at d.length_front) y
              store s i p false f =
                  let o : clauses_for t.equals ≡ 2 = rw f in
                  let y : take (3 * g''.literals) ls'' ≡ take (3 * g.literals) ls ++ (take (3 * t.count) fs' ++ take (3 * t.count) ss') =
                  (rw f at d.literal_front) ∙ ap (λ (z : List ℤ). z ++ take (3 * t.count) ss') (first_front s i p) ∙ append_assoc (take (3 * g.literals) ls) (take (3 * t.count) fs') (take (3 * t.count) ss') in
                  stored_two i (with_rule s i p) ns'' ls'' f (advanced 2 o) (rw f at d.length_front) y

              pub rule_next : Answers (tree_by version (rule_f b n ts)) g rs ps ns ls keys rs' ps' ns'' ls'' keys (Ok g'')
              rule_next =
                  record {
                    says = λ s k i p.
                        let x = tree.line in
                        let f : tree_fault (top_of version) s x ≡ none = fault_is (told s i p) a_rule (top_of version) ∙ rw (u, le-ltb 1 t.equals q, w, le-ltb 128 t.making.used v) in
                        record {
                          draft = rule s x;
                          outcome = rw (tree.tree, f) (ap read (after_rule (top_of version) s x a_rule));
                          stored = store s i p (eqb t.equals 0) refl;
                          proper = proper_rule s x a_rule p;
                        };
                  }
