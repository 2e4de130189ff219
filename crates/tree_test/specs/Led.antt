-- A stretch of the walk: i of n marks are written in xs and x is the next one; later j are in ys, and y is the next one.
use Rattle.std.specs.Prelude.{Option, Some as known, None as unknown, ◌≡◌, refl, true, false, List, [], ◌∷◌, ◌++◌, eqb, length, set}
use Rattle.std.proofs.Math.Path.{ap, sym}
use Rattle.std.proofs.Common.{subst, ◌∙◌, append-nil, le_of_suc-le-suc}
use Rattle.std.proofs.lemmas.Bool.{false≢true}
use Prim.Native.Nat.{ℕ, zero, suc, ◌+◌, ◌-◌, ◌<◌, ◌≤◌}
use native.Mathlib.Omega.{arith}
use Rattle.std.proofs.Math.ListN.{take}
use borrow.Author.Tests.{le-leb, lt-leb, eqb-true, eq-eqb, ne_eqb}
use Rattle.spec_words.specs.Words.{pass, halt, same_test}
use Rattle.spec_lists.specs.Tests.{turn_left}
use Rattle.spec_tree.specs.Tour.{END, tour}
use Rattle.spec_rules.specs.Contents.{Contents}
use Rattle.spec_rules.specs.Test.{tree_test}
use Rattle.tree_test.specs.declared.Spot.{Spot}
use Rattle.tree_test.specs.Walk.{next_mark, walk_test, path, walk_same, path_tour}

last_one : (n i : ℕ) → i < n → eqb (n - (i + 1)) 0 ≡ eqb (i + 1) n
last_one n i h =
    same_test _ _
    (λ e. let a = eqb-true (n - (i + 1)) 0 e in eq-eqb (i + 1) n (omega (arith, a, h)))
    (λ e. let a = eqb-true (i + 1) n e in eq-eqb (n - (i + 1)) 0 (omega (arith, a, h)))

-- one element more
take_set : (i x : ℕ) (xs r : List ℕ) → i < length xs → take (suc i) (set xs i x) ++ r ≡ take i xs ++ x ∷ r
take_set i x [] r h = let z : ⊥ = omega arith in absurd z
take_set zero x (y ∷ xs) r h = refl
take_set (suc i) x (y ∷ xs) r h = ap (λ (l : List ℕ). y ∷ l) (take_set i x xs r (le_of_suc-le-suc h))

module _ (c : Contents) (n : ℕ) where
  -- what is to come there gives what was to come here
  pub record Same (x i : ℕ) (xs : List ℕ) (y j : ℕ) (ys : List ℕ) : Type 0 where
    pub test : walk_test c (n - j) y ≡ walk_test c (n - i) x
    pub marks : take j ys ++ path c (n - j) y ≡ take i xs ++ path c (n - i) x

  -- the walk came to where a task is entered or the top is exited, with k marks written or more; or it failed
  pub record Led (x i : ℕ) (xs : List ℕ) (k : ℕ) (r : Option Spot) (ys : List ℕ) : Type 0 where
    pub on : (s : Spot) → r ≡ known s → (s.mark ≤ 128) × (k ≤ s.written) × Same x i xs s.mark s.written ys
    pub wrong : r ≡ unknown → false ≡ walk_test c (n - i) x

  pub same_here : (x i : ℕ) (xs : List ℕ) → Same x i xs x i xs
  same_here x i xs = record { test = refl; marks = refl }

  pub same_on : {x i : ℕ} {xs : List ℕ} {y j : ℕ} {ys : List ℕ} {z k : ℕ} {zs : List ℕ} → Same x i xs y j ys → Same y j ys z k zs → Same x i xs z k zs
  same_on a b = record { test = b.test ∙ a.test; marks = b.marks ∙ a.marks }

  pub led_on : {x i : ℕ} {xs : List ℕ} {y j : ℕ} {ys : List ℕ} {k : ℕ} {r : Option Spot} {zs : List ℕ} → Same x i xs y j ys
      → Led y j ys k r zs → Led x i xs k r zs
  led_on a b = record { on = λ s e. let d = b.on s e in (d.0, d.1, same_on a d.2); wrong = λ e. b.wrong e ∙ a.test }

  pub led_here : {x i : ℕ} {xs : List ℕ} {s : Spot} {k : ℕ} {ys : List ℕ} → s.mark ≤ 128 → k ≤ s.written → Same x i xs s.mark s.written ys
      → Led x i xs k (known s) ys
  led_here {x = x} {i = i} {xs = xs} {s = s} {k = k} {ys = ys} h l a =
      record {
        on = λ r e. let q : s ≡ r = cc in subst (λ (z : Spot). (z.mark ≤ 128) × (k ≤ z.written) × Same x i xs z.mark z.written ys) q (h, l, a);
        wrong = λ e. absurd (cc);
      }

  pub led_wrong : {x i : ℕ} {xs : List ℕ} {k : ℕ} {r : Option Spot} {ys : List ℕ} → r ≡ unknown → false ≡ walk_test c (n - i) x → Led x i xs k r ys
  led_wrong q e = record { on = λ s d. absurd (cc); wrong = λ d. e }

  -- ONE MARK
  module _ (i x : ℕ) where
    pub walk_none : n ≤ i → false ≡ walk_test c (n - i) x
    unfolding walk_test
    walk_none h = sym (ap (λ (k : ℕ). walk_test c k x) (let z : n - i ≡ 0 = omega arith in z))

    module _ (h : i < n) where
      walk_last : x ≡ 128 → eqb (i + 1) n ≡ walk_test c (n - i) x
      unfolding walk_test
      walk_last q = sym (ap (λ (k : ℕ). walk_test c k x) (turn_left n i h) ∙ halt _ _ (eq-eqb x 128 q) ∙ last_one n i h)

      path_more : (xs : List ℕ) → i < length xs → take (i + 1) (set xs i x) ++ path c (n - (i + 1)) (next_mark c x) ≡ take i xs ++ path c (n - i) x
      unfolding path
      path_more xs r =
          ap (λ (k : ℕ). take k (set xs i x) ++ path c (n - (i + 1)) (next_mark c x)) (let z : i + 1 ≡ suc i = omega arith in z)
          ∙ take_set i x xs (path c (n - (i + 1)) (next_mark c x)) r
          ∙ ap (λ (k : ℕ). take i xs ++ path c k x) (sym (turn_left n i h))

      module _ (o : x ≡ 128 → ⊥) (y : ℕ) (e : y ≡ next_mark c x) where
        pub walk_wrong : END ≤ y → false ≡ walk_test c (n - i) x
        unfolding walk_test
        walk_wrong l =
            sym (ap (λ (k : ℕ). walk_test c k x) (turn_left n i h) ∙ pass _ (ne_eqb x 128 o) (halt _ _ (le-leb END (next_mark c x) (omega (arith, e, l)))))

        walk_on : y < END → walk_test c (n - (i + 1)) y ≡ walk_test c (n - i) x
        unfolding walk_test
        walk_on l =
            sym
            (ap (λ (k : ℕ). walk_test c k x) (turn_left n i h)
            ∙ pass _ (ne_eqb x 128 o) (pass _ (lt-leb END (next_mark c x) (omega (arith, e, l))) (ap (walk_test c (n - (i + 1))) (sym e))))

        -- it is written, and y is the next one
        pub same_step : (xs : List ℕ) → i < length xs → y < END → Same x i xs y (i + 1) (set xs i x)
        same_step xs r l =
            record { test = walk_on l; marks = ap (λ (z : ℕ). take (i + 1) (set xs i x) ++ path c (n - (i + 1)) z) e ∙ path_more xs r }

  -- THE WHOLE WALK
  walk_starts : walk_test c (n - 0) 0 ≡ tree_test c n 0
  walk_starts = ap (λ (k : ℕ). walk_test c k 0) (let z : n - 0 ≡ n = omega arith in z) ∙ walk_same c n

  -- it fails
  pub walk_fails : (ys : List ℕ) → false ≡ walk_test c (n - 0) 0 → (false ≡ tree_test c n 0) × (false ≡ true → take n ys ≡ tour n c.recs 0)
  walk_fails ys e = (e ∙ walk_starts, λ t. absurd (false≢true t))

  -- it comes to where the top is exited, and that mark is written
  pub walk_ends : (xs ys : List ℕ) (i x : ℕ) → i < n → i < length ys → x ≡ 128 → Same 0 0 xs x i ys
      → (eqb (i + 1) n ≡ tree_test c n 0) × (eqb (i + 1) n ≡ true → take n (set ys i x) ≡ tour n c.recs 0)
  unfolding path
  walk_ends xs ys i x h r q a =
      let e = walk_last i x h q ∙ a.test ∙ walk_starts in (
        e,
        λ t.
            let z = eqb-true (i + 1) n t in
            ap (λ (k : ℕ). take k (set ys i x)) (sym z)
            ∙ sym (append-nil (take (i + 1) (set ys i x)))
            ∙ ap (λ (k : ℕ). take (i + 1) (set ys i x) ++ path c k (next_mark c x)) (let y : 0 ≡ n - (i + 1) = omega (arith, z) in y)
            ∙ path_more i x h ys r
            ∙ a.marks
            ∙ ap (λ (k : ℕ). path c k 0) (let y : n - 0 ≡ n = omega arith in y)
            ∙ path_tour c n (sym e ∙ t),
      )
