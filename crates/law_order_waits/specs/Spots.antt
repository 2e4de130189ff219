-- What the tests of program order say of the spots.
use Rattle.std.specs.Prelude.{◌≡◌, refl, Bool, true, false, List, [], ◌∷◌, ℕ, ◌<◌, ◌≤◌, eqb}
use Rattle.std.proofs.Common.{ap, sym, ◌∙◌, inl, inr, ⊎_elim, arith}
use Rattle.std.proofs.Math.Path.{subst}
use Rattle.std.proofs.lemmas.Bool.{false≢true}
use borrow.Author.Tests.{eqb-true, eq-eqb, ltb-true, lt-ltb}
use Rattle.spec_words.specs.Words.{pick, pass, halt, either, both_true, true_both, same_test, either_true, true_left, true_right}
use Rattle.spec_order.specs.Steps.{Name, Task, Item, step, spot, name_of, number_of, rights_of}
use Rattle.spec_order.specs.Waits.{is_child, is_older, some_spot, unfinished, some_pair}
use Rattle.spec_order.specs.Ordered.{rights_at}
use Rattle.law_order.specs.Names.{same_true, same_yes}
use Rattle.law_order.specs.Items.{In}
use Rattle.law_order.specs.Count.{count, spot_named, spot_numbered, count_in, named_yes}
use Rattle.law_order.specs.Reached.{Reached}
use Rattle.law_order.specs.Laws.{one_spot}
use Rattle.spec_lists.specs.Counting.{one_true}

pub some_says : (f : Task → Bool) (xs : List Item) → some_spot f xs ≡ true → (s : Task) × In (spot s) xs × (f s ≡ true)
unfolding some_spot
some_says f [] e = absurd (false≢true e)
some_says f (step p a ∷ xs) e = let w = some_says f xs e in (w.0, inr w.1, w.2)
some_says f (spot s ∷ xs) e =
    ⊎_elim (λ d. (s, inl refl, d)) (λ d. let w = some_says f xs d in (w.0, inr w.1, w.2)) (either_true _ _ e)

pub same_spot : {s o : Task} → spot s ≡ spot o → s ≡ o
same_spot e = cc

no_step : {s : Task} {p : Name} {a : Rattle.spec_order.specs.Steps.Act} → spot s ≡ step p a → ⊥
no_step e = let z : ◌≡◌ {A = ℕ} 0 1 = cc in omega (arith, z)

pub says_some : (f : Task → Bool) (xs : List Item) (s : Task) → In (spot s) xs → f s ≡ true → some_spot f xs ≡ true
unfolding some_spot
says_some f [] s i e = absurd i
says_some f (step p a ∷ xs) s (inl d) e = absurd (no_step d)
says_some f (step p a ∷ xs) s (inr i) e = says_some f xs s i e
says_some f (spot o ∷ xs) s (inl d) e = true_left _ (ap f (sym (same_spot d)) ∙ e)
says_some f (spot o ∷ xs) s (inr i) e = true_right (f o) (says_some f xs s i e)

-- items that pass a test that one item passes at most
one_passes : (f : Item → Bool) (xs : List Item) (x y : Item) → count f xs ≤ 1 → In x xs → In y xs → f x ≡ true → f y ≡ true → x ≡ y
unfolding count
one_passes f [] x y h i j d e = absurd i
one_passes f (z ∷ xs) x y h (inl i) (inl j) d e = i ∙ sym j
one_passes f (z ∷ xs) x y h (inl i) (inr j) d e =
    let a = one_true (ap f (sym i) ∙ d) in let b = count_in f y xs j e in let w : ⊥ = omega (arith, a, b, h) in absurd w
one_passes f (z ∷ xs) x y h (inr i) (inl j) d e =
    let a = one_true (ap f (sym j) ∙ e) in let b = count_in f x xs i d in let w : ⊥ = omega (arith, a, b, h) in absurd w
one_passes f (z ∷ xs) x y h (inr i) (inr j) d e = one_passes f xs x y (omega (arith, h)) i j d e

pub numbered : (s : Task) (t : ℕ) → number_of s ≡ t → spot_numbered t (spot s) ≡ true
unfolding spot_numbered
numbered s t e = eq-eqb (number_of s) t e

module _ (xs : List Item) (h : Reached xs) where
  -- no two spots have one number, none one name
  pub same_number : (s o : Task) → In (spot s) xs → In (spot o) xs → number_of s ≡ number_of o → s ≡ o
  same_number s o i j e =
      same_spot
      (one_passes (spot_numbered (number_of o)) xs (spot s) (spot o) ((one_spot xs h).1 (number_of o)) i j (numbered s (number_of o) e)
      (numbered o (number_of o) refl))

  pub same_name : (s o : Task) → In (spot s) xs → In (spot o) xs → name_of s ≡ name_of o → s ≡ o
  same_name s o i j e =
      same_spot
      (one_passes (spot_named (name_of o)) xs (spot s) (spot o) ((one_spot xs h).0 (name_of o)) i j (named_yes (name_of o) s e) (named_yes (name_of o) o refl))

  -- a pair with the task s
  pub pair_is : (f : Task → Task → Bool) (s : Task) → In (spot s) xs → some_pair f (number_of s) xs ≡ some_spot (f s) xs
  unfolding some_pair
  pair_is f s i =
      same_test _ _
      (λ e.
      let w = some_says _ xs e in
      let b = both_true _ _ w.2 in
      subst (λ (o : Task). some_spot (f o) xs ≡ true) (same_number w.0 s w.1 i (eqb-true _ _ b.0)) b.1)
      (λ e. says_some _ xs s i (true_both (eq-eqb (number_of s) (number_of s) refl) e))

  pub unfinished_says : (t : ℕ) → unfinished t xs ≡ true → (s : Task) × In (spot s) xs × (number_of s ≡ t)
  unfolding unfinished
  unfinished_says t e = let w = some_says _ xs e in (w.0, w.1, eqb-true _ _ w.2)

pub says_unfinished : (xs : List Item) (s : Task) → In (spot s) xs → unfinished (number_of s) xs ≡ true
unfolding unfinished
says_unfinished xs s i = says_some _ xs s i (eq-eqb (number_of s) (number_of s) refl)

-- the rights of an unfinished task
rights_first : (xs : List Item) (t : ℕ) → unfinished t xs ≡ true → (s : Task) × In (spot s) xs × (number_of s ≡ t) × (rights_at t xs ≡ rights_of s)
unfolding unfinished some_spot rights_at either pick
rights_first [] t e = absurd (false≢true e)
rights_first (step p a ∷ xs) t e = let w = rights_first xs t e in (w.0, inr w.1, w.2, w.3)
rights_first (spot s ∷ xs) t e = go (eqb (number_of s) t) refl (rights_first xs t)
  where
    go : (b : Bool) → eqb (number_of s) t ≡ b → (unfinished t xs ≡ true → (o : Task) × In (spot o) xs × (number_of o ≡ t) × (rights_at t xs ≡ rights_of o))
        → (o : Task) × In (spot o) (spot s ∷ xs) × (number_of o ≡ t) × (pick (eqb (number_of s) t) (rights_of s) (rights_at t xs) ≡ rights_of o)
    go true d rest = (s, inl refl, eqb-true _ _ d, halt _ _ d)
    go false d rest = let w = rest (sym (pass true d refl) ∙ e) in (w.0, inr w.1, w.2, pass _ d w.3)

pub rights_at_lem : (xs : List Item) → Reached xs → (s : Task) → In (spot s) xs → rights_at (number_of s) xs ≡ rights_of s
rights_at_lem xs h s i =
    let w = rights_first xs (number_of s) (says_unfinished xs s i) in
    w.3 ∙ ap rights_of (same_number xs h w.0 s w.1 i w.2)

-- NAMES of children and of older siblings
pub child_says : (p q : Name) → is_child p q ≡ true → (k : ℕ) × (p ≡ k ∷ q)
unfolding is_child
child_says [] q e = absurd (false≢true e)
child_says (i ∷ p) q e = (i, ap (λ (n : Name). i ∷ n) (same_true p q e))

pub says_child : (k : ℕ) (q : Name) → is_child (k ∷ q) q ≡ true
unfolding is_child
says_child k q = same_yes q q refl

pub older_says : (p q : Name) → is_older p q ≡ true → (i : ℕ) × (j : ℕ) × (n : Name) × (p ≡ i ∷ n) × (q ≡ j ∷ n) × (i < j)
unfolding is_older
older_says [] q e = absurd (false≢true e)
older_says (i ∷ p) [] e = absurd (false≢true e)
older_says (i ∷ p) (j ∷ q) e =
    let b = both_true _ _ e in
    (i, j, q, ap (λ (n : Name). i ∷ n) (same_true p q b.1), refl, ltb-true i j b.0)

pub says_older : (i j : ℕ) (n : Name) → i < j → is_older (i ∷ n) (j ∷ n) ≡ true
unfolding is_older
says_older i j n l = true_both (lt-ltb i j l) (same_yes n n refl)
