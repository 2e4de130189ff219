-- spawn: 8 exactly with 128 unfinished tasks, and the new task's number is no unfinished task's.
use Rattle.std.specs.Prelude.{◌≡◌, refl, Bool, true, false, not, List, ◌∷◌, ◌++◌, eqb}
use Rattle.std.proofs.Common.{ap, sym, ◌∙◌, subst, arith, eqb-true, eq-eqb}
use Prim.Native.Nat.{ℕ}
use Rattle.std.proofs.lemmas.Bool.{eqb-false}
use Rattle.spec_words.specs.Words.{pick, same_test}
use Rattle.spec_layout.specs.Layout.{free_tasks, rights_of as rights_in, read}
use Rattle.spec_answers.specs.declared.Answer.{Answer}
use Rattle.spec_answers.specs.declared.Answer.TheVariants.{Moved, Waits, Refused}
use Rattle.spec_answers.specs.Answers.{outcome, answer_of, words_of}
use Rattle.spec_answers.specs.Calls.{Call, spawn_call}
use Rattle.spec_tree.specs.Rights.{subset}
use Rattle.spec_outcomes.specs.Waits.{blocked as blockedIn}
use Rattle.spec_outcomes.specs.Spawn.{spawned, spawn_tested}
use Rattle.spec_order.specs.Steps.{Task, Item, spot, number_of, rights_of, counted, noted}
use Rattle.spec_order.specs.Waits.{unfinished, blocked}
use Rattle.law_order.specs.Items.{in_split}
use Rattle.law_order_waits.specs.Spots.{unfinished_says, rights_at_lem}
use Rattle.law_order_waits.specs.Played.{played_reached}
use Rattle.spec_order.specs.Ordered.{rights_at, spots, for_task}
use Rattle.law_links.specs.Many.{spots_many}
use Rattle.law_invariant.specs.Represents.{Represents}
use Rattle.law_invariant_spawn.specs.Spawn.{spawn_represents, spawn_fresh}
use Rattle.law_in_order.specs.Answered.{next_task}
use Rattle.law_in_order.proofs.Yields.{Yields, refuses, waits, chooses, chooses_not}
use Rattle.law_in_order.proofs.Refusals.{for_task_lem, rights_are, rights_same, blocked_same}

-- a free record is wanting exactly where 128 tasks are unfinished
none_idle : (m : List ℕ) (xs : List Item) → Represents m xs → eqb (read m free_tasks) 0 ≡ eqb (spots xs) 128
none_idle m xs r =
    let e = spots_many m r.tour xs r.linked in
    same_test _ _
    (λ d. let z = eqb-true (read m free_tasks) 0 d in eq-eqb (spots xs) 128 (omega (arith, e, z)))
    (λ d. let z = eqb-true (spots xs) 128 d in eq-eqb (read m free_tasks) 0 (omega (arith, e, z)))

module _ (P : List ℕ → List Item → Type 0) (holds_of : (m : List ℕ) (xs : List Item) → Represents m xs → P m xs) where
  abbrev Answers : List ℕ → ℕ → ℕ → List Item → Answer
  Answers m u t xs =
      pick (subset u (rights_at t xs)) (pick (blocked t xs) Waits (pick (eqb (spots xs) 128) (Refused 8) (Moved (next_task m)))) (Refused 6)

  -- the caller has a spot
  spawns_well : (m : List ℕ) (u : ℕ) (ys zs : List Item) (s : Task) → Represents m (ys ++ spot s ∷ zs)
      → Yields P (ys ++ spot s ∷ zs) (spawn_call (number_of s) u)
      (pick (not (subset u (rights_in m (number_of s)))) (outcome (Refused 6) m)
      (pick (blockedIn m (number_of s)) (outcome Waits m) (pick (eqb (read m free_tasks) 0) (outcome (Refused 8) m) (spawned m (number_of s) u))))
      (Answers m u (number_of s) (ys ++ spot s ∷ zs))
  unfolding spawned next_task answer_of words_of noted counted
  spawns_well m u ys zs s r =
      chooses_not P (subset u (rights_in m t)) (subset u (rights_at t Old)) (ap (subset u) (rights_same m ys zs s r))
      (λ sub.
      chooses P (blockedIn m t) (blocked t Old) (blocked_same m ys zs s r) (λ b. waits P m Old c (holds_of m Old r)) (λ b.
      chooses P (eqb (read m free_tasks) 0) (eqb (spots Old) 128) (none_idle m Old r) (λ e. refuses P m Old c 8 (holds_of m Old r)) (λ e.
      record {
        answer = refl;
        holds =
            holds_of _ _ (spawn_represents m ys zs s r u (ap (subset u) (sym (rights_are m ys zs s r)) ∙ sub)
            (eqb-false (read m free_tasks) 0 (none_idle m Old r ∙ e)) b);
      })))
      (λ sub. refuses P m Old c 6 (holds_of m Old r))
    where
      t : ℕ
      t = number_of s

      Old : List Item
      Old = ys ++ spot s ∷ zs

      c : Call
      c = spawn_call (number_of s) u

  pub spawn_does : (m : List ℕ) (xs : List Item) (t u : ℕ) → Represents m xs → Yields P xs (spawn_call t u) (spawn_tested m t u) (for_task t xs (Answers m u t xs))
  unfolding spawn_tested
  spawn_does m xs t u =
      for_task_lem P holds_of (λ t. spawn_call t u)
      (λ t. pick (not (subset u (rights_in m t))) (outcome (Refused 6) m)
      (pick (blockedIn m t) (outcome Waits m) (pick (eqb (read m free_tasks) 0) (outcome (Refused 8) m) (spawned m t u))))
      (Answers m u) m (spawns_well m u) xs t

-- the free record used next is that of no unfinished task
free_number : (m : List ℕ) (xs : List Item) (t u : ℕ) → Represents m xs → unfinished t xs ≡ true → subset u (rights_at t xs) ≡ true
    → eqb (spots xs) 128 ≡ false → unfinished (next_task m) xs ≡ false
unfolding next_task
free_number m xs t u r a b c =
    let w = unfinished_says xs (played_reached r.played) t a in
    let k = in_split (spot w.0) xs w.1 in
    let r' = subst (Represents m) k.2 r in
    let rights : rights_at t xs ≡ rights_of w.0 = ap (λ (x : ℕ). rights_at x xs) (sym w.2) ∙ rights_at_lem xs (played_reached r.played) w.0 w.1 in
    subst (λ (l : List Item). unfinished (next_task m) l ≡ false) (sym k.2)
    (spawn_fresh m k.0 k.1 w.0 r' u (ap (subset u) (sym rights) ∙ b) (eqb-false (read m free_tasks) 0 (none_idle m xs r ∙ c)))

-- the number of a new task is that of no unfinished one
pub fresh_task : (m : List ℕ) (xs : List Item) (t u v : ℕ) → Represents m xs
    → for_task t xs (pick (subset u (rights_at t xs)) (pick (blocked t xs) Waits (pick (eqb (spots xs) 128) (Refused 8) (Moved (next_task m)))) (Refused 6))
    ≡ Moved v
    → unfinished v xs ≡ false
unfolding for_task pick
fresh_task m xs t u v r = go (unfinished t xs) (subset u (rights_at t xs)) (blocked t xs) (eqb (spots xs) 128) refl refl refl
  where
    go : (a b c d : Bool) → unfinished t xs ≡ a → subset u (rights_at t xs) ≡ b → eqb (spots xs) 128 ≡ d
        → pick a (pick b (pick c Waits (pick d (Refused 8) (Moved (next_task m)))) (Refused 6)) (Refused 4) ≡ Moved v → unfinished v xs ≡ false
    go true true false false e f g h = let i : next_task m ≡ v = cc in subst (λ (x : ℕ). unfinished x xs ≡ false) i (free_number m xs t u r e f g)
    go false b c d e f g h = let z : ◌≡◌ {A = ℕ} 0 1 = cc in absurd (omega (arith, z))
    go true false c d e f g h = let z : ◌≡◌ {A = ℕ} 0 1 = cc in absurd (omega (arith, z))
    go true true true d e f g h = let z : ◌≡◌ {A = ℕ} 0 1 = cc in absurd (omega (arith, z))
    go true true false true e f g h = let z : ◌≡◌ {A = ℕ} 0 1 = cc in absurd (omega (arith, z))
