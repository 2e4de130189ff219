-- What the waits keep true of the spots: parents stay, a blocked task has no children.
use Rattle.std.specs.Prelude.{◌≡◌, refl, true, false, ℕ, ◌+◌, ◌<◌, length}
use Rattle.std.proofs.Math.Path.{ap, ap₂, subst}
use Rattle.std.proofs.Common.{sym, ◌∙◌, inl, inr, arith}
use Rattle.std.proofs.Math.Bool.{false≢true}
use mathlib.Core.List.{List, [], ◌∷◌, ◌++◌, head-eq_of_cons-eq, tail-eq_of_cons-eq, cons-ne-nil}
use Rattle.std.proofs.Math.Logic.{⊎_elim}
use Rattle.spec_words.specs.Words.{both_true, true_both}
use Rattle.spec_tree.specs.Rights.{subset, shares_pop}
use Rattle.spec_order.specs.Steps.{Name, Task, Item, spot, Act, spawns, finishes, name_of, number_of, rights_of, begin, made, advance}
use Rattle.spec_order.specs.Waits.{is_older, is_child, unfinished, blocked, has_child}
use Rattle.law_order.specs.Items.{In}
use Rattle.law_order.specs.Reached.{Reached}
use Rattle.law_order_waits.specs.Spots.{some_says, says_some, same_name, pair_is, rights_at_lem, says_child, older_says, same_spot}
use Rattle.law_order_waits.specs.Played.{Asked, Played, opens, plays, played_reached, At, stands_at, advance_is, kids_of, Like, child_of, Spawns}
use Rattle.law_order_waits.specs.Changes.{in_right, back, forth, spawner}

module _ (xs : List Item) where
  -- s is an unfinished task
  abbrev pub Stands : Task → Type 0
  Stands s = In (spot s) xs

  -- o is an unfinished older sibling of s that shares a pop right with it
  abbrev pub Blocks : Task → Task → Type 0
  Blocks o s = Stands o × (is_older (name_of o) (name_of s) ≡ true) × (shares_pop (rights_of o) (rights_of s) ≡ true)

  pub record Kinship : Type 0 where
    -- children are numbered below the number of children made
    pub below : (s o : Task) (j : ℕ) → Stands s → Stands o → name_of o ≡ j ∷ name_of s → j < kids_of s
    -- "an unfinished task other than the top has an unfinished parent", with all its rights
    pub parent : (s : Task) (k : ℕ) (p : Name) → Stands s → name_of s ≡ k ∷ p
        → (o : Task) × Stands o × (name_of o ≡ p) × (subset (rights_of s) (rights_of o) ≡ true)
    -- a blocked task has no children
    pub idle : (o s c : Task) (k : ℕ) → Blocks o s → Stands s → Stands c → name_of c ≡ k ∷ name_of s → ⊥

cons_same : {i j : ℕ} {p q : Name} → i ∷ p ≡ j ∷ q → (i ≡ j) × (p ≡ q)
cons_same e = (head-eq_of_cons-eq e, tail-eq_of_cons-eq e)

top_alone : (s : Task) → In (spot s) begin → name_of s ≡ []
unfolding begin name_of
top_alone s (inl e) = ap name_of (same_spot e)
top_alone s (inr i) = absurd i

begin_kinship : Kinship begin
begin_kinship = record {
  below = λ s o j a b e. absurd (cons-ne-nil _ _ (sym e ∙ top_alone o b));
  parent = λ s k p a e. absurd (cons-ne-nil _ _ (sym e ∙ top_alone s a));
  idle = λ o s c k b i j e. absurd (cons-ne-nil _ _ (sym e ∙ top_alone c j));
}

pub says_blocked : (xs : List Item) → Reached xs → (o s : Task) → Blocks xs o s → In (spot s) xs → blocked (number_of s) xs ≡ true
unfolding blocked
says_blocked xs h o s b i = pair_is xs h _ s i ∙ says_some _ xs o b.0 (true_both b.1 b.2)

pub blocked_says : (xs : List Item) → Reached xs → (s : Task) → In (spot s) xs → blocked (number_of s) xs ≡ true → (o : Task) × Blocks xs o s
unfolding blocked
blocked_says xs h s i e =
    let w = some_says _ xs (sym (pair_is xs h _ s i) ∙ e) in
    let b = both_true _ _ w.2 in
    (w.0, (w.1, b.0, b.1))

pub says_child_there : (xs : List Item) → Reached xs → (s c : Task) (k : ℕ) → In (spot s) xs → In (spot c) xs → name_of c ≡ k ∷ name_of s
    → has_child (number_of s) xs ≡ true
unfolding has_child
says_child_there xs h s c k i j e = pair_is xs h _ s i ∙ says_some _ xs c j (ap (λ (n : Name). is_child n (name_of s)) e ∙ says_child k (name_of s))

no_own_child : (k : ℕ) (p : Name) → p ≡ k ∷ p → ⊥
no_own_child k p e = let a = ap length e in omega (arith, a)

-- ONE STEP keeps it.
module _ (ys zs : List Item) (s : Task) (a : Act) where
  abbrev Old : List Item
  Old = ys ++ spot s ∷ zs

  abbrev New : List Item
  New = ys ++ (made s a ++ zs)

  module _ (old : Reached Old) (new : Reached New) (free : blocked (number_of s) Old ≡ false) (asked : Asked (number_of s) a Old) (kin : Kinship Old) where
    mine : In (spot s) Old
    mine = in_right (spot s) ys (spot s ∷ zs) (inl refl)

    -- nobody has the name of the child to come, or a child of that name
    new_name : (o : Task) → In (spot o) Old → name_of o ≡ kids_of s ∷ name_of s → ⊥
    new_name o i e = let l = kin.below s o (kids_of s) mine i e in omega (arith, l)

    new_branch : (o : Task) (j : ℕ) → In (spot o) Old → name_of o ≡ j ∷ kids_of s ∷ name_of s → ⊥
    new_branch o j i e = let w = kin.parent o j (kids_of s ∷ name_of s) i e in new_name w.0 w.1 w.2

    named : (o : Task) → Spawns s a o → name_of o ≡ kids_of s ∷ name_of s
    unfolding child_of name_of
    named o w = ap name_of w.3

    -- a task of that name is the child, and no task of after is a child of it
    childless : (o c : Task) (j : ℕ) → Spawns s a o → In (spot c) New → name_of c ≡ j ∷ name_of o → ⊥
    childless o c j w i e =
        let f = e ∙ ap (λ (n : Name). j ∷ n) (named o w) in
        ⊎_elim
        (λ v. new_branch v.0 j v.1 (sym v.2.name ∙ f))
        (λ v. no_own_child (kids_of s) (name_of s) (cons_same (sym (named c v) ∙ f)).1)
        (back ys zs s a c i)

    grown : (o : Task) → In (spot o) New → name_of o ≡ name_of s → (w : (c : ℕ) × (r : ℕ) × (a ≡ spawns c r)) → kids_of o ≡ kids_of s + 1
    grown o i e w = go w.0 w.1 w.2
      where
        go : (c r : ℕ) → a ≡ spawns c r → kids_of o ≡ kids_of s + 1
        go c r f =
            let v = spawner ys zs s c r in
            let j : In (spot v.0) New = subst (λ (b : Act). In (spot v.0) (ys ++ (made s b ++ zs))) (sym f) v.1 in
            ap kids_of (same_name New new o v.0 i j (e ∙ sym v.2.name)) ∙ v.3

    below_after : (o c : Task) (j : ℕ) → In (spot o) New → In (spot c) New → name_of c ≡ j ∷ name_of o → j < kids_of o
    below_after o c j i k e = ⊎_elim (λ v. ⊎_elim (both_old v) (child_new v) (back ys zs s a c k)) (λ v. absurd (childless o c j v k e)) (back ys zs s a o i)
      where
        both_old : (b : Task) × In (spot b) Old × Like o b → (b : Task) × In (spot b) Old × Like c b → j < kids_of o
        both_old v w =
            let l = kin.below v.0 w.0 j v.1 w.1 (sym w.2.name ∙ e ∙ ap (λ (n : Name). j ∷ n) v.2.name) in
            let m = v.2.kids in
            omega (arith, l, m)

        child_new : (b : Task) × In (spot b) Old × Like o b → Spawns s a c → j < kids_of o
        child_new v w =
            let d = cons_same (sym e ∙ named c w) in
            let g = grown o i d.1 (w.0, w.1, w.2) in
            let f = d.0 in
            omega (arith, g, f)

    no_children : a ≡ finishes → (c : Task) (k : ℕ) → In (spot c) Old → name_of c ≡ k ∷ name_of s → ⊥
    unfolding Asked
    no_children e c k i n =
        let f : Asked (number_of s) finishes Old = subst (λ (b : Act). Asked (number_of s) b Old) e asked in
        false≢true (sym f ∙ says_child_there Old old s c k mine i n)

    within : (c r : ℕ) → a ≡ spawns c r → subset r (rights_of s) ≡ true
    unfolding Asked
    within c r e =
        let f : Asked (number_of s) (spawns c r) Old = subst (λ (b : Act). Asked (number_of s) b Old) e asked in
        ap (subset r) (sym (rights_at_lem Old old s mine)) ∙ f

    parent_after : (o : Task) (k : ℕ) (p : Name) → In (spot o) New → name_of o ≡ k ∷ p
        → (b : Task) × In (spot b) New × (name_of b ≡ p) × (subset (rights_of o) (rights_of b) ≡ true)
    unfolding child_of rights_of
    parent_after o k p i e = ⊎_elim was_there is_new (back ys zs s a o i)
      where
        was_there : (b : Task) × In (spot b) Old × Like o b → (b : Task) × In (spot b) New × (name_of b ≡ p) × (subset (rights_of o) (rights_of b) ≡ true)
        was_there v =
            let w = kin.parent v.0 k p v.1 (sym v.2.name ∙ e) in
            ⊎_elim
            (λ u. (u.0, u.1, u.2.name ∙ w.2, ap₂ (λ (x y : ℕ). subset x y) v.2.rights u.2.rights ∙ w.3))
            (λ u. absurd (no_children u.1 v.0 k v.1 (sym v.2.name ∙ e ∙ ap (λ (n : Name). k ∷ n) (sym w.2 ∙ ap name_of u.0))))
            (forth ys zs s a w.0 w.1)

        is_new : Spawns s a o → (b : Task) × In (spot b) New × (name_of b ≡ p) × (subset (rights_of o) (rights_of b) ≡ true)
        is_new w =
            let v = spawner ys zs s w.0 w.1 in (
              v.0,
              subst (λ (b : Act). In (spot v.0) (ys ++ (made s b ++ zs))) (sym w.2) v.1,
              v.2.name ∙ (cons_same (sym (named o w) ∙ e)).1,
              ap₂ (λ (x y : ℕ). subset x y) (ap rights_of w.3) v.2.rights ∙ within w.0 w.1 w.2,
            )

    idle_after : (o b c : Task) (k : ℕ) → Blocks New o b → In (spot b) New → In (spot c) New → name_of c ≡ k ∷ name_of b → ⊥
    idle_after o b c k l i j e = ⊎_elim old_one (λ v. childless b c k v j e) (back ys zs s a b i)
      where
        -- the blocked task was there
        old_one : (d : Task) × In (spot d) Old × Like b d → ⊥
        old_one v = ⊎_elim (λ w. ⊎_elim (all_old w) (new_blocker w) (back ys zs s a o l.0)) new_child (back ys zs s a c j)
          where
            shares : (w : (d : Task) × In (spot d) Old × Like o d) → Blocks Old w.0 v.0
            shares w = (
              w.1,
              ap₂ is_older (sym w.2.name) (sym v.2.name) ∙ l.1,
              ap₂ shares_pop (sym w.2.rights) (sym v.2.rights) ∙ l.2,
            )

            all_old : (d : Task) × In (spot d) Old × Like c d → (d : Task) × In (spot d) Old × Like o d → ⊥
            all_old w u = kin.idle u.0 v.0 w.0 k (shares u) v.1 w.1 (sym w.2.name ∙ e ∙ ap (λ (n : Name). k ∷ n) v.2.name)

            -- the new child is younger than its siblings
            new_blocker : (d : Task) × In (spot d) Old × Like c d → Spawns s a o → ⊥
            new_blocker w u =
                let y = older_says (name_of o) (name_of b) l.1 in
                let n = cons_same (sym (named o u) ∙ y.3) in
                let z = kin.below s v.0 y.1 mine v.1 (sym v.2.name ∙ y.4 ∙ ap (λ (p : Name). y.1 ∷ p) (sym n.1)) in
                let f = n.0 in
                let g = y.5 in
                omega (arith, z, f, g)

            -- the blocked task would be the one that makes the step
            new_child : Spawns s a c → ⊥
            new_child u =
                let n = cons_same (sym (named c u) ∙ e) in
                let m = same_name Old old v.0 s v.1 mine (sym v.2.name ∙ sym n.1) in
                ⊎_elim
                (λ w. false≢true (sym free ∙ says_blocked Old old w.0 s (subst (Blocks Old w.0) m (shares w)) mine))
                (λ w.
                let y = older_says (name_of o) (name_of b) l.1 in
                let z = cons_same (sym (named o w) ∙ y.3) in
                no_own_child y.1 (name_of s) (n.1 ∙ y.4 ∙ ap (λ (p : Name). y.1 ∷ p) (sym z.1)))
                (back ys zs s a o l.0)

    pub step_kinship : Kinship New
    step_kinship = record { below = below_after; parent = parent_after; idle = idle_after }

moved_kinship : {xs : List Item} (t : ℕ) (a : Act) → Reached xs → Reached (advance t a xs) → unfinished t xs ≡ true → blocked t xs ≡ false → Asked t a xs
    → Kinship xs
    → Kinship (advance t a xs)
moved_kinship {xs} t a old new u b c kin = go (stands_at xs old t u)
  where
    go : At t xs → Kinship (advance t a xs)
    go w =
        let ys = w.before in
        let zs = w.behind in
        let s = w.who in
        let e = advance_is xs old t a w in
        subst Kinship (sym e)
        (step_kinship ys zs s a (subst Reached w.here old) (subst Reached e new)
        (subst (λ (l : List Item). blocked (number_of s) l ≡ false) w.here (ap (λ (n : ℕ). blocked n xs) w.number ∙ b))
        (subst (λ (l : List Item). Asked (number_of s) a l) w.here (subst (λ (n : ℕ). Asked n a xs) (sym w.number) c))
        (subst Kinship w.here kin))

-- IN EVERY LIST that allowed steps lead to.
pub kinship : {xs : List Item} → Played xs → Kinship xs
kinship opens = begin_kinship
kinship (plays {xs} t a h u f b c) = moved_kinship t a (played_reached h) (played_reached (plays t a h u f b c)) u b c (kinship h)
