-- HOW MANY TASKS ARE UNFINISHED: with the free records they are 128.
use Rattle.std.specs.Prelude.{◌≡◌, refl, List, [], ◌∷◌, ℕ, zero, suc, ◌+◌, ◌-◌, ◌<◌, length}
use Rattle.std.proofs.Common.{ap, sym, ◌∙◌, subst, ⊎_elim, eq-zero-or-pos, arith, length-append}
use Rattle.spec_lists.specs.Counting.{total, occurrences, total_ext, length_total}
use Rattle.spec_layout.specs.Layout.{free_tasks, read}
use Rattle.spec_tree.specs.Tour.{entered}
use Rattle.spec_rules.specs.Contents.{Contents, decode}
use Rattle.spec_rules.specs.Rules.{Unfinished}
use Rattle.law_rules_tasks.specs.Tested.{idle_says}
use Rattle.law_rules_tasks.specs.Holders.{entered_count}
use Rattle.spec_order.specs.Steps.{Item, step, spot, number_of}
use Rattle.spec_order.specs.Ordered.{spots}
use Rattle.law_links.specs.Linked.{numbers_back, Linked, back_says, says_back, spot_unfinished, unfinished_spot}
use Rattle.law_links.specs.Idle.{idle_length, idle_height}
use Rattle.law_links.specs.Marks.{mark_once, mark_held, mark_exited}

-- a sum in two parts
total_parts : (n k : ℕ) (f : ℕ → ℕ) → total (k + n) f ≡ total n f + total k (λ y. f (n + y))
unfolding total
total_parts n zero f = let a : total (0 + n) f ≡ total n f = ap (λ (x : ℕ). total x f) (let z : 0 + n ≡ n = omega arith in z) in omega (arith, a)
total_parts n (suc k) f =
    let a = total_parts n k f in
    let b : f (k + n) ≡ f (n + k) = ap f (omega arith) in
    let d : total (suc k + n) f ≡ total (k + n) f + f (k + n) = ap (λ (x : ℕ). total x f) (let z : suc k + n ≡ suc (k + n) = omega arith in z) in
    omega (arith, a, b, d)

pub spots_length : (xs : List Item) → spots xs ≡ length (numbers_back xs)
unfolding spots numbers_back
spots_length [] = refl
spots_length (step p a ∷ xs) = spots_length xs
spots_length (spot s ∷ xs) =
    let a = spots_length xs in
    let b = length-append (numbers_back xs) (number_of s ∷ []) in
    omega (arith, a, b)

module _ (m : List ℕ) (T : List ℕ) (xs : List Item) (h : Linked m T xs) where
  abbrev c : Contents
  c = decode m

  -- a task is entered as often as it is exited
  entered_exited : (t : ℕ) → t < 128 → occurrences t T ≡ occurrences (128 + t) T
  entered_exited t small =
      let a = mark_once m T xs h t in
      let b = mark_once m T xs h (128 + t) in
      ⊎_elim
      (λ e. ⊎_elim (λ f. e ∙ sym f) (λ p. let z = seen p in let y : ⊥ = omega (arith, e, z) in absurd y) (eq-zero-or-pos (occurrences (128 + t) T)))
      (λ p. let q = exited p in omega (arith, a, b, p, q))
      (eq-zero-or-pos (occurrences t T))
    where
      exited : 0 < occurrences t T → 0 < occurrences (128 + t) T
      exited p =
          ⊎_elim (λ w. mark_exited m T xs h t w.1) (λ w. let l = w.0 in let z : ⊥ = omega (arith, l, small) in absurd z) (mark_held m T xs h t p)

      there : Unfinished c t → 0 < occurrences t T
      there u =
          let w = unfinished_spot m T xs h t u in
          let a = says_back w.0 xs w.1 in
          let b = ap (occurrences t) h.spots in
          let d = entered_count T t small in
          let e : occurrences (number_of w.0) (numbers_back xs) ≡ occurrences t (numbers_back xs) = ap (λ (x : ℕ). occurrences x (numbers_back xs)) w.2 in
          omega (arith, a, b, d, e)

      seen : 0 < occurrences (128 + t) T → 0 < occurrences t T
      seen p =
          ⊎_elim
          (λ w. let l = w.0 in let z : ⊥ = omega (arith, l) in absurd z)
          (λ w. there (subst (Unfinished c) (let z : 128 + t - 128 ≡ t = omega arith in z) w.2))
          (mark_held m T xs h (128 + t) p)

  entries : length (entered T) ≡ total 128 (λ y. occurrences y T)
  entries =
      length_total 128 (entered T) small ∙ total_ext 128 _ _ (λ y l. entered_count T y l)
    where
      small : (x : ℕ) → 0 < occurrences x (entered T) → x < 128
      small x p =
          let w = back_says x xs (let e = ap (occurrences x) h.spots in omega (arith, e, p)) in
          subst (λ (y : ℕ). y < 128) w.2 (spot_unfinished m T xs h w.0 w.1).0

  whole : length T ≡ total 256 (λ y. occurrences y T)
  whole = length_total 256 T (λ x p. ⊎_elim (λ w. let l = w.0 in omega (arith, l)) (λ w. w.1) (mark_held m T xs h x p))

  pub spots_many : spots xs + read m free_tasks ≡ 128
  spots_many =
      let a = entries in
      let b = whole in
      let d = total_parts 128 128 (λ y. occurrences y T) in
      let e = total_ext 128 (λ y. occurrences y T) (λ y. occurrences (128 + y) T) entered_exited in
      let f = h.many in
      let i = (idle_says c h.idle).few in
      let k = idle_height m h.sized i in
      let n = idle_length m h.sized (omega (arith, k)) in
      let s = spots_length xs ∙ ap length (sym h.spots) in
      omega (arith, a, b, d, e, f, i, k, n, s)
