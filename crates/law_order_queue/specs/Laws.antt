-- THE TIMELINE OF A QUEUE: how it begins, what each step does to it, and what it says that a task finds.
use Rattle.std.specs.Prelude.{◌≡◌, true, false, ℕ, ◌+◌, ◌≤◌}
use Rattle.std.proofs.Math.Path.{refl, ap, sym, subst}
use Rattle.std.proofs.Common.{◌∙◌, arith, eq-eqb}
use Rattle.std.proofs.lemmas.Bool.{false≢true}
use mathlib.Core.List.{List, [], ◌∷◌, ◌++◌}
use Rattle.std.proofs.Math.Option.{none}
use Rattle.std.proofs.Math.ListN.{length-append}
use Rattle.spec_words.specs.Words.{pass, halt}
use Rattle.spec_tree.specs.Rights.{pops as mayPop, uses}
use Rattle.spec_order.specs.Steps.{Name, Task, Item, step, spot, task, Act, spawns, pushes, pops, finishes, name_of, number_of, rights_of, begin, made, advance}
use Rattle.law_order.specs.Count.{count, spot_numbered}
use Rattle.law_order.specs.Numbers.{advance_at}
use Rattle.law_order.specs.Moves.{made_plain, made_finish, plain_push, plain_pop}
use Rattle.law_order.specs.Courses.{plain}
use Rattle.spec_tree.specs.Users.{pops_uses, useless_pops}
use Rattle.law_order_queue.specs.Points.{Point, value, user, values, added, along, takes, pop_count, NoPopper, Timeline}
use Rattle.law_order_queue.specs.Balance.{along_append, pops_append, balance_is, value_count, count_values, all_values, covers_append, covers_front}
use Rattle.law_order_queue.specs.Balance.{covers_still, late_behind, late_free}
use Rattle.law_order_queue.specs.Steps.{located, inserted, unchanged}

-- At the beginning only the top stands there.
pub begins : (q : ℕ) → uses 255 q ≡ true → Timeline q begin (user 0 ∷ [])
unfolding along pop_count begin number_of rights_of
begins q u = record { popped = []; parts = halt _ _ u; many = refl; covers = tt; late = (λ m. refl, tt) }

values_snoc : (vs : List ℕ) (v : ℕ) (ps : List Point) → values (vs ++ (v ∷ [])) ++ ps ≡ values vs ++ value v ∷ ps
values_snoc [] v ps = refl
values_snoc (w ∷ vs) v ps = ap (λ (l : List Point). value w ∷ l) (values_snoc vs v ps)

-- a value in front of points that end at a task stands before the task
value_first : (v : ℕ) (ps a b : List Point) (t : ℕ) → value v ∷ ps ≡ a ++ user t ∷ b → 1 ≤ value_count a
unfolding value_count
value_first v ps [] b t e = let z : ◌≡◌ {A = ℕ} 0 1 = cc in absurd (omega (arith, z))
value_first v ps (value w ∷ a) b t e = omega arith
value_first v ps (user u ∷ a) b t e = let z : ◌≡◌ {A = ℕ} 0 1 = cc in absurd (omega (arith, z))

module _ (q : ℕ) (ys zs : List Item) (s : Task) (single : count (spot_numbered (number_of s)) (ys ++ spot s ∷ zs) ≤ 1) where
  abbrev t : ℕ
  t = number_of s

  abbrev Before : List Item
  Before = ys ++ spot s ∷ zs

  abbrev After : Act → List Item
  After a = advance t a Before

  moved : {ps : List Point} (a : Act) → Timeline q (ys ++ (made s a ++ zs)) ps → Timeline q (After a) ps
  moved {ps} a h = subst (λ (l : List Item). Timeline q l ps) (sym (advance_at ys zs s a single)) h

  -- Steps that are neither pushes to the queue nor pops from it, neither spawns nor finishes: the timeline stays.
  pub plain_line : {ps : List Point} (a : Act) → plain a ≡ true → added q a ≡ [] → takes q a ≡ 0 → Timeline q Before ps
      → Timeline q (After a) ps
  unfolding along pop_count
  plain_line {ps} a k e f h =
      moved a
      (subst (λ (l : List Item). Timeline q (ys ++ (l ++ zs)) ps) (sym (made_plain s a k))
      (unchanged q ys zs s (step (name_of s) a ∷ spot s ∷ []) (ap (λ (l : List Point). l ++ along q (spot s ∷ [])) e) h (omega (arith, f)) (λ l. l)))

  -- A push to the queue puts the value just before the pusher's spot.
  pub push_line : (a b : List Point) (v : ℕ) → uses (rights_of s) q ≡ true → Timeline q Before (a ++ user t ∷ b)
      → Timeline q (After (pushes q v)) (a ++ value v ∷ user t ∷ b)
  unfolding along pop_count takes added
  push_line a b v u h =
      let ms = step (name_of s) (pushes q v) ∷ spot s ∷ [] in
      let e : along q ms ++ b ≡ value v ∷ user t ∷ b =
      ap (λ (l : List Point). (l ++ along q (spot s ∷ [])) ++ b) (halt _ _ (eq-eqb q q refl)) ∙ ap (λ (l : List Point). value v ∷ (l ++ b)) (halt _ _ u) in
      moved (pushes q v)
      (subst (λ (l : List Item). Timeline q (ys ++ (l ++ zs)) (a ++ value v ∷ user t ∷ b)) (sym (made_plain s (pushes q v) (plain_push q v)))
      (subst (λ (l : List Point). Timeline q (ys ++ (ms ++ zs)) (a ++ l)) e (inserted q ys zs s a b ms single u h refl (λ l. l))))

  -- A pop takes the value at the front, where no popper stands before the task.
  pub pop_line : (v : ℕ) (ps : List Point) → mayPop (rights_of s) q ≡ true → NoPopper q ys → Timeline q Before (value v ∷ ps) → Timeline q (After (pops q)) ps
  unfolding along pop_count takes added
  pop_line v ps m n h =
      let w = located q ys zs s (pops_uses (rights_of s) q m) h in
      let l = late_behind q ys (spot s ∷ zs) h.late in
      let one_taken : takes q (pops q) ≡ 1 = halt _ _ (eq-eqb q q refl) in
      let none = l.0 m in
      let a = pops_append q ys (spot s ∷ zs) in
      let b = pops_append q ys (step (name_of s) (pops q) ∷ spot s ∷ zs) in
      let d = h.many in
      let fill = balance_is q 0 ys (covers_front q 0 ys (spot s ∷ zs) h.covers) in
      let f = ap value_count w.1 ∙ count_values (values h.popped) w.0 in
      let g = all_values h.popped in
      let i = value_first v ps w.0 (along q zs) t w.2 in
      moved (pops q)
      (subst (λ (l : List Item). Timeline q (ys ++ (l ++ zs)) ps) (sym (made_plain s (pops q) (plain_pop q)))
      (record {
        popped = h.popped ++ (v ∷ []);
        parts =
            along_append q ys (step (name_of s) (pops q) ∷ spot s ∷ zs)
            ∙ sym (along_append q ys (spot s ∷ zs))
            ∙ h.parts
            ∙ sym (values_snoc h.popped v ps);
        many = let e = length-append h.popped (v ∷ []) in omega (arith, a, b, d, e, one_taken);
        covers =
            covers_append q 0 ys (step (name_of s) (pops q) ∷ spot s ∷ zs) (covers_front q 0 ys (spot s ∷ zs) h.covers)
            (omega (arith, one_taken, fill, f, g, i, a, d), (covers_still q _ zs none).0);
        late = late_free q ys (step (name_of s) (pops q) ∷ spot s ∷ zs) n l;
      }))

  -- A finish takes the task's spot away.
  pub finish_line : (a b : List Point) → uses (rights_of s) q ≡ true → Timeline q Before (a ++ user t ∷ b) → Timeline q (After finishes) (a ++ b)
  unfolding along pop_count takes added
  finish_line a b u h =
      moved finishes
      (subst (λ (l : List Item). Timeline q (ys ++ (l ++ zs)) (a ++ b)) (sym (made_finish s))
      (inserted q ys zs s a b (step (name_of s) finishes ∷ []) single u h refl (λ l. l.1)))

  pub finish_past : {ps : List Point} → uses (rights_of s) q ≡ false → Timeline q Before ps → Timeline q (After finishes) ps
  unfolding along pop_count takes added
  finish_past {ps} u h =
      moved finishes
      (subst (λ (l : List Item). Timeline q (ys ++ (l ++ zs)) ps) (sym (made_finish s))
      (unchanged q ys zs s (step (name_of s) finishes ∷ []) (sym (pass _ u refl)) h refl (λ l. l.1)))

-- A spawn puts the child's spot just before the spawner's, where the child has a right to the queue.
module _ (q : ℕ) (ys zs : List Item) (p : Name) (t r k c u : ℕ) (single : count (spot_numbered t) (ys ++ spot (task p t r k) ∷ zs) ≤ 1) where
  abbrev Spawner : Task
  Spawner = task p t r k

  abbrev Child : List Item
  Child = step p (spawns c u) ∷ spot (task (k ∷ p) c u 0) ∷ spot (task p t r (k + 1)) ∷ []

  placed : {ps : List Point} → Timeline q (ys ++ (Child ++ zs)) ps → Timeline q (advance t (spawns c u) (ys ++ spot Spawner ∷ zs)) ps
  unfolding made number_of
  placed {ps} h = subst (λ (l : List Item). Timeline q l ps) (sym (advance_at ys zs Spawner (spawns c u) single)) h

  pub spawn_line : (a b : List Point) → uses u q ≡ true → uses r q ≡ true → (mayPop u q ≡ true → mayPop r q ≡ true)
      → Timeline q (ys ++ spot Spawner ∷ zs) (a ++ user t ∷ b) → Timeline q (advance t (spawns c u) (ys ++ spot Spawner ∷ zs)) (a ++ user c ∷ user t ∷ b)
  unfolding along pop_count takes added number_of rights_of
  spawn_line a b e f g h =
      let d : along q Child ++ b ≡ user c ∷ user t ∷ b =
      ap (λ (l : List Point). l ++ b) (halt _ _ e) ∙ ap (λ (l : List Point). user c ∷ (l ++ b)) (halt _ _ f) in
      placed
      (subst (λ (l : List Point). Timeline q (ys ++ (Child ++ zs)) (a ++ l)) d
      (inserted q ys zs Spawner a b Child single f h refl (λ l. (λ m. l.0 (g m), (l.0, l.1)))))

  pub spawn_past : {ps : List Point} → uses u q ≡ false → Timeline q (ys ++ spot Spawner ∷ zs) ps
      → Timeline q (advance t (spawns c u) (ys ++ spot Spawner ∷ zs)) ps
  unfolding along pop_count takes added number_of rights_of
  spawn_past e h =
      placed
      (unchanged q ys zs Spawner Child (pass _ e refl) h refl
      (λ l. (λ m. absurd (false≢true (sym (useless_pops u q e) ∙ m)), (l.0, l.1))))
