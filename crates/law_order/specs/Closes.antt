-- A task that was made has one spot or one finish, never both.
use Rattle.std.specs.Prelude.{◌≡◌, refl, true, false, List, [], ◌∷◌, ◌++◌, ℕ, ◌+◌}
use Rattle.std.proofs.Common.{ap, sym, ◌∙◌, subst, inl, inr, arith}
use Rattle.std.proofs.lemmas.Bool.{false≢true}
use Rattle.spec_words.specs.Words.{both, pass}
use Rattle.spec_order.specs.Steps.{Name, Item, step, spot, task, Act, spawns, pushes, pops, tests, syncs, finishes, name_of}
use Rattle.spec_lists.specs.Counting.{one_true, one_false}
use Rattle.law_order.specs.Names.{Under, under_self, not_under_child}
use Rattle.law_order.specs.Items.{In, whose, WasMade}
use Rattle.law_order.specs.Count.{count, spot_named, finish_of, is_finish, count_append, count_none, named_yes, named_whose}
use Rattle.law_order.specs.Count.{finish_yes, finish_whose}
use Rattle.law_order.specs.Reached.{Reached}
use Rattle.law_order.specs.Courses.{Course, stands, ended, goes, forks, items, course, plain}
use Rattle.law_order.specs.Kin.{own}
use Rattle.law_order.specs.Spawned.{Spawned}
use Rattle.law_order.specs.Children.{spawned}

-- the spots and finishes of the task named p
abbrev pub closings : Name → List Item → ℕ
closings p xs = count (spot_named p) xs + count (finish_of p) xs

closings_append : (p : Name) (xs ys : List Item) → closings p (xs ++ ys) ≡ closings p xs + closings p ys
closings_append p xs ys = let a = count_append (spot_named p) xs ys in let b = count_append (finish_of p) xs ys in omega (arith, a, b)

closings_none : (p : Name) (xs : List Item) → ((x : Item) → In x xs → whose x ≡ p → ⊥) → closings p xs ≡ 0
closings_none p xs h =
    let a = count_none (spot_named p) xs (λ x i e. h x i (named_whose p x e)) in
    let b = count_none (finish_of p) xs (λ x i e. h x i (finish_whose p x e)) in
    omega (arith, a, b)

-- a step that is no finish closes nothing
closings_step : (p q : Name) (a : Act) (xs : List Item) → is_finish a ≡ false → closings p (step q a ∷ xs) ≡ closings p xs
unfolding count spot_named finish_of both
closings_step p q a xs e = let b = one_false {b = false} refl in let d = one_false {b = finish_of p (step q a)} (pass _ e refl) in omega (arith, b, d)

plain_open : (a : Act) → plain a ≡ true → is_finish a ≡ false
unfolding plain is_finish
plain_open (spawns c r) e = refl
plain_open (pushes q v) e = refl
plain_open (pops q) e = refl
plain_open (tests q) e = refl
plain_open syncs e = refl
plain_open finishes e = absurd (false≢true e)

closes_spot : (p : Name) (t r k : ℕ) → closings p (spot (task p t r k) ∷ []) ≡ 1
unfolding count finish_of name_of
closes_spot p t r k = let a = one_true (named_yes p (task p t r k) refl) in let b = one_false {b = false} refl in omega (arith, a, b)

closes_finish : (p : Name) → closings p (step p finishes ∷ []) ≡ 1
unfolding count spot_named
closes_finish p = let a = one_true (finish_yes p) in let b = one_false {b = false} refl in omega (arith, a, b)

-- a task is not its own child
not_child : (p : Name) (n : ℕ) → Under (n ∷ p) p → ⊥
not_child p n = not_under_child (under_self p)

-- A course has one of them for its own task.
closes : (p : Name) (t r k : ℕ) (w : Course) → closings p (items p t r k w) ≡ 1
unfolding items is_finish
closes p t r k stands = closes_spot p t r k
closes p t r k ended = closes_finish p
closes p t r k (goes a d w) = closings_step p p a (items p t r k w) (plain_open a d) ∙ closes p t r k w
closes p t r k (forks c s v w) =
    let a = closings_step p p (spawns c s) (items (k ∷ p) c s 0 v ++ items p t r (k + 1) w) refl in
    let b = closings_append p (items (k ∷ p) c s 0 v) (items p t r (k + 1) w) in
    let d = closings_none p (items (k ∷ p) c s 0 v) (λ x i e. not_child p k (subst (Under (k ∷ p)) e (own (k ∷ p) c s 0 v x i))) in
    let e = closes p t r (k + 1) w in
    omega (arith, a, b, d, e)

-- And so has every list for a child that was made in it.
child_closes : (p : Name) (n j : ℕ) (xs : List Item) → Spawned p (n ∷ p) j xs → closings (n ∷ p) xs ≡ 1
unfolding is_finish
child_closes p n j xs b =
    let block = items (n ∷ p) b.number b.rights 0 b.course in
    let a = ap (closings (n ∷ p)) b.parts ∙ closings_append (n ∷ p) b.before (step p (spawns b.number b.rights) ∷ (block ++ b.next ∷ b.behind)) in
    let d = closings_none (n ∷ p) b.before (λ x i e. b.free_before x i ([], e)) in
    let e = closings_step (n ∷ p) p (spawns b.number b.rights) (block ++ b.next ∷ b.behind) refl in
    let f = closings_append (n ∷ p) block (b.next ∷ b.behind) in
    let g = closes (n ∷ p) b.number b.rights 0 b.course in
    let h = closings_none (n ∷ p) (b.next ∷ b.behind) none in
    omega (arith, a, d, e, f, g, h)
  where
    none : (x : Item) → In x (b.next ∷ b.behind) → whose x ≡ n ∷ p → ⊥
    none x (inl e) d = not_child p n ([], sym b.mine ∙ ap whose (sym e) ∙ d)
    none x (inr i) d = b.free_behind x i ([], d)

-- In a reached list.
pub made_closes : (xs : List Item) → Reached xs → (p : Name) → WasMade p xs → closings p xs ≡ 1
unfolding WasMade
made_closes xs h [] m = let w = course h in ap (closings []) w.1 ∙ closes [] 0 255 0 w.0
made_closes xs h (k ∷ q) m = child_closes q k k xs (spawned xs h q k m)
