-- A LIST OF TASKS IN WORDS: the first n words, from the last of them on.
use Rattle.std.specs.Prelude.{◌≡◌, Bool, true, ℕ, zero, suc, ◌+◌, ◌<◌, ◌≤◌, ltb}
use Rattle.std.proofs.Math.Path.{refl, ap₂}
use Rattle.std.proofs.Common.{ap, sym, ◌∙◌, subst, ⊎_elim, arith, lt-ltb, le-ltb, le-leb}
use Rattle.std.proofs.Math.Bool.{false}
use mathlib.Core.List.{List, [], ◌∷◌}
use Rattle.std.proofs.lemmas.Bool.{lt-leb}
use Rattle.spec_words.specs.Words.{load, store, size, pick, halt, pass, load_same, load_other}
use Rattle.spec_lists.specs.Counting.{equal?}
use Rattle.spec_lists.specs.Maps.{All}
use Rattle.spec_layout.specs.Layout.{record_of}
use Rattle.spec_tree.specs.Tour.{END, after, tour, entered}
use Rattle.spec_simulate.specs.Machine.{back_onto, in_program_order}

unfoldable pub listed : List ℕ → ℕ → List ℕ
listed w zero = []
listed w (suc n) = load w n ∷ listed w n

-- a word from n on is none of them
pub listed_store : (w : List ℕ) (n k v : ℕ) → n ≤ k → listed (store w k v) n ≡ listed w n
unfolding listed
listed_store w zero k v h = refl
listed_store w (suc n) k v h =
    ap₂ (λ (x : ℕ) (l : List ℕ). x ∷ l) (load_other w k n v (λ e. differ e)) (listed_store w n k v (omega (arith, h)))
  where
    differ : n ≡ k → ⊥
    differ e = omega (arith, e, h)

-- one more in front
pub listed_more : (w : List ℕ) (n v : ℕ) → n < size w → listed (store w n v) (n + 1) ≡ v ∷ listed w n
listed_more w n v small =
    let next : n + 1 ≡ suc n = omega arith in
    ap (listed (store w n v)) next
    ∙ (unfold listed in ap₂ (λ (x : ℕ) (l : List ℕ). x ∷ l) (load_same w n v small) (listed_store w n n v (omega arith)))

-- what holds of all of them holds of each
pub listed_at : (P : ℕ → Type 0) (w : List ℕ) (n i : ℕ) → All P (listed w n) → i < n → P (load w i)
unfolding listed
listed_at P w zero i h less = let z : ⊥ = omega (arith, less) in absurd z
listed_at P w (suc n) i h less =
    let rest = listed_at P w n i h.1 in
    ⊎_elim (λ e. subst (λ (k : ℕ). P (load w k)) (sym e) h.0) (λ o. rest (omega (arith, less, o))) (equal? i n)

-- the task that is entered at mark x is put in front, if one is; k is their number then
pub record Noted (n x : ℕ) (w : List ℕ) (k : ℕ) (w' : List ℕ) : Type 0 where
  pub tasks : listed w' k ≡ back_onto (entered (x ∷ [])) (listed w n)
  pub most : k ≤ n + 1

pub noted_task : (n x : ℕ) (w : List ℕ) → n < size w → x < 128 → Noted n x w (n + 1) (store w n x)
unfolding entered back_onto
noted_task n x w room small =
    record {
      tasks = listed_more w n x room ∙ sym (ap (λ (l : List ℕ). back_onto l (listed w n)) (halt _ _ (lt-ltb x 128 small)));
      most = omega arith;
    }

pub noted_none : (n x : ℕ) (w : List ℕ) → 128 ≤ x → Noted n x w n w
unfolding entered back_onto
noted_none n x w large =
    record { tasks = sym (ap (λ (l : List ℕ). back_onto l (listed w n)) (pass _ (le-ltb x 128 large) refl)); most = omega arith }

-- marks one after the other
entered_first : (x : ℕ) (xs ys : List ℕ) → back_onto (entered (x ∷ xs)) ys ≡ back_onto (entered xs) (back_onto (entered (x ∷ [])) ys)
unfolding entered
entered_first x xs ys = go (ltb x 128)
  where
    go : (b : Bool) → back_onto (pick b (x ∷ entered xs) (entered xs)) ys ≡ back_onto (entered xs) (back_onto (pick b (x ∷ entered []) (entered [])) ys)
    go true = unfold pick back_onto entered in refl
    go false = unfold pick back_onto entered in refl

-- THE LOOP: n tasks are listed, and at most k marks from x on are left
pub record Listing (m : List ℕ) (k x n : ℕ) (w : List ℕ) : Type 0 where
  pub rest : back_onto (entered (tour k (record_of m) x)) (listed w n) ≡ in_program_order m
  pub room : n + k ≤ 256

pub listing_begins : (m w : List ℕ) → Listing m 256 0 0 w
unfolding in_program_order listed
listing_begins m w = record { rest = refl; room = omega arith }

pub listing_ends : (m w : List ℕ) (k x n : ℕ) → Listing m k x n w → 256 ≤ x → listed w n ≡ in_program_order m
unfolding back_onto entered
listing_ends m w k x n h past = sym (ap (λ (l : List ℕ). back_onto (entered l) (listed w n)) (none_left k)) ∙ h.rest
  where
    none_left : (k : ℕ) → tour k (record_of m) x ≡ []
    none_left zero = unfold tour in refl
    none_left (suc i) = unfold tour in halt _ _ (le-leb END x past)

pub listing_spent : (m w : List ℕ) (k x n : ℕ) → Listing m k x n w → k ≤ 0 → listed w n ≡ in_program_order m
listing_spent m w zero x n h none = unfold tour entered back_onto in h.rest
listing_spent m w (suc k) x n h none = let z : ⊥ = omega (arith, none) in absurd z

pub listing_more : (m w w' : List ℕ) (k x n n' y : ℕ) → Listing m k x n w → 0 < k → x < 256 → Noted n x w n' w' → y ≡ after (record_of m) x
    → (i : ℕ) → i + 1 ≡ k → Listing m i y n' w'
listing_more m w w' k x n n' y h some on noted is i less =
    record {
      rest =
          ap₂ (λ (z : ℕ) (l : List ℕ). back_onto (entered (tour i (record_of m) z)) l) is noted.tasks
          ∙ sym (entered_first x (tour i (record_of m) (after (record_of m) x)) (listed w n))
          ∙ sym (ap (λ (l : List ℕ). back_onto (entered l) (listed w n)) tour_first)
          ∙ h.rest;
      room = let a = h.room in let b = noted.most in omega (arith, a, b, less);
    }
  where
    unfold_tour : tour (suc i) (record_of m) x ≡ x ∷ tour i (record_of m) (after (record_of m) x)
    unfold_tour = unfold tour in pass _ (lt-leb END x on) refl

    tour_first : tour k (record_of m) x ≡ x ∷ tour i (record_of m) (after (record_of m) x)
    tour_first = let next : k ≡ suc i = omega (arith, less) in ap (λ (j : ℕ). tour j (record_of m) x) next ∙ unfold_tour
