-- THE WAITS by the links of the words and by program order: the same.
use Rattle.std.specs.Prelude.{◌≡◌, true, not, List, ◌∷◌, eqb}
use Rattle.std.proofs.Math.Path.{refl, ap, sym, subst}
use Rattle.std.proofs.Common.{◌∙◌, inr}
use Rattle.std.proofs.Math.Bool.{Bool}
use Rattle.std.proofs.lemmas.Bool.{false≢true}
use Rattle.std.proofs.Math.Logic.{⊎_elim}
use Prim.Native.Nat.{ℕ, zero, suc, ◌<◌, ◌≤◌}
use native.Mathlib.Omega.{arith}
use borrow.Author.Tests.{ltb-true, lt-ltb, eqb-true, eq-eqb, ne_eqb}
use Rattle.spec_words.specs.Words.{load, both, both_true, true_both, same_test}
use Rattle.spec_lists.specs.Counting.{equal?}
use Rattle.spec_layout.specs.Layout.{NONE, STATUS, OLDER, YOUNGEST, task, rights_of as rights_in, read, record_of}
use Rattle.spec_layout.proofs.Frame.{record_word}
use Rattle.spec_tree.specs.Rights.{pops, shares_pop}
use Rattle.spec_tree.specs.Tour.{sibling}
use Rattle.spec_rules.specs.Contents.{decode, word}
use Rattle.spec_rules.specs.Rules.{walk}
use Rattle.spec_outcomes.specs.Waits.{unfinished as unfinished_in, blocked as blockedIn, child_pops as childPopsIn, has_child as hasChildIn}
use Rattle.spec_order.specs.Steps.{Name, Task, Item, spot, name_of, number_of, rights_of}
use Rattle.spec_order.specs.Waits.{is_child, some_spot, unfinished, blocked, child_pops, has_child}
use Rattle.law_order.specs.Items.{In}
use Rattle.law_order_waits.specs.Spots.{some_says, says_some, same_number, pair_is, unfinished_says, says_unfinished, child_says, says_child}
use Rattle.law_order_waits.specs.Played.{Played, played_reached}
use Rattle.law_order_waits.specs.Kinship.{blocked_says, says_blocked}
use Rattle.law_links.specs.Siblings.{On, on_below, found_on, on_found}
use Rattle.law_links.specs.Linked.{Linked, word_is, rules, spot_unfinished, unfinished_spot}
use Rattle.law_links.specs.Family.{link_child, on_older, older_on, on_child, child_on}

not_is : (a : ℕ) → (a ≡ NONE → ⊥) → not (eqb a NONE) ≡ true
not_is a n = ap not (ne_eqb a NONE n)

is_not : (a : ℕ) → not (eqb a NONE) ≡ true → a ≡ NONE → ⊥
is_not a e d = false≢true (ap not (sym (eq-eqb a NONE d)) ∙ e)

module _ (m : List ℕ) (T : List ℕ) (xs : List Item) (play : Played xs) (h : Linked m T xs) where
  abbrev recs : ℕ → List ℕ
  recs = record_of m

  -- 4 "task is 128 or more, or not unfinished"
  pub same_unfinished : (t : ℕ) → unfinished_in m t ≡ unfinished t xs
  unfolding unfinished_in
  same_unfinished t =
      same_test _ _
      (λ e.
      let b = both_true _ _ e in
      let w = unfinished_spot m T xs h t (ltb-true t 128 b.0, word_is m t STATUS ∙ eqb-true _ _ b.1) in
      subst (λ (x : ℕ). unfinished x xs ≡ true) w.2 (says_unfinished xs w.0 w.1))
      (λ e.
      let w = unfinished_says xs (played_reached play) t e in
      let u = spot_unfinished m T xs h w.0 w.1 in
      subst (λ (x : ℕ). unfinished_in m x ≡ true) w.2
      (true_both (lt-ltb (number_of w.0) 128 u.0) (eq-eqb _ _ (sym (word_is m (number_of w.0) STATUS) ∙ u.1))))

  pub same_rights : (s : Task) → In (spot s) xs → rights_in m (number_of s) ≡ rights_of s
  same_rights s i = h.rights s i

  -- a list of siblings ends within 128 steps, from a task's older sibling on and from its youngest child on
  walk_end : (k t : ℕ) → t < 128 → k ≤ 128 → walk (λ x. word (decode m) x OLDER) k t ≡ NONE
      → (j : ℕ) × (j ≤ 128) × (walk (λ x. load (recs x) OLDER) j (load (recs t) OLDER) ≡ NONE)
  unfolding walk word
  walk_end zero t l n e = let z : ⊥ = omega (arith, l, e) in absurd z
  walk_end (suc k) t l n e = (k, omega (arith, n), e)

  older_ends : (s : Task) → In (spot s) xs → (j : ℕ) × (j ≤ 128) × (walk (λ x. load (recs x) OLDER) j (load (recs (number_of s)) OLDER) ≡ NONE)
  unfolding walk word
  older_ends s i =
      ⊎_elim
      (λ e. (0, omega arith, ap (λ (x : ℕ). load (recs x) OLDER) e ∙ (rules m T xs h).top_alone.1.0))
      (λ n.
      let u = spot_unfinished m T xs h s i in
      let w = (rules m T xs h).no_sibling_ring (number_of s) _ (n, (u, refl)) in
      walk_end w.0 (number_of s) u.0 w.1 w.2)
      (equal? (number_of s) 0)

  pub youngest_ends : (s : Task) → In (spot s) xs → (j : ℕ) × (j ≤ 128) × (walk (λ x. load (recs x) OLDER) j (load (recs (number_of s)) YOUNGEST) ≡ NONE)
  unfolding walk word
  youngest_ends s i =
      ⊎_elim
      (λ e. (0, omega arith, e))
      (λ w. let v = (rules m T xs h).no_sibling_ring _ _ w.0 in (v.0, v.1, v.2))
      ((rules m T xs h).youngest_linked (number_of s) (inr (spot_unfinished m T xs h s i)))

  -- "Every call of a task .. waits while an older sibling is unfinished that shares a pop right with it on some queue."
  pub same_blocked : (s : Task) → In (spot s) xs → blockedIn m (number_of s) ≡ blocked (number_of s) xs
  unfolding blockedIn
  same_blocked s i =
      same_test _ _
      (λ e.
      let found = sibling 128 f recs (read m (task (number_of s) OLDER)) in
      let w = found_on recs f 128 _ found refl (is_not _ e) in
      let v = on_older m T xs play h s _ found i (sym (record_word m (number_of s) OLDER)) w.0 in
      says_blocked xs (played_reached play) v.0 s (
        v.1,
        v.3,
        subst (λ (x : ℕ). shares_pop x (rights_of s) ≡ true) (ap (rights_in m) (sym v.2) ∙ same_rights v.0 v.1)
            (subst (λ (x : ℕ). shares_pop (rights_in m found) x ≡ true) (same_rights s i) w.1),
      ) i)
      (λ e.
      let w = blocked_says xs (played_reached play) s i e in
      let g = older_on m T xs play h s w.0 i w.1.0 w.1.1 in
      let k = older_ends s i in
      not_is _
      (on_found recs f 128 k.0 _ (number_of w.0) k.1 (ap (walk (λ x. load (recs x) OLDER) k.0) (sym (record_word m (number_of s) OLDER)) ∙ k.2)
      (subst (λ (x : ℕ). On recs x (number_of w.0)) (record_word m (number_of s) OLDER) g)
      (subst (λ (x : ℕ). shares_pop x (rights_in m (number_of s)) ≡ true) (sym (same_rights w.0 w.1.0))
      (subst (λ (x : ℕ). shares_pop (rights_of w.0) x ≡ true) (sym (same_rights s i)) w.1.2))))
    where
      f : ℕ → Bool
      f x = shares_pop (rights_in m x) (rights_in m (number_of s))

  -- a child of s that a test of rights holds of
  pub same_child : (g : ℕ → Bool) (s : Task) → In (spot s) xs
      → not (eqb (sibling 128 (λ x. g (rights_in m x)) recs (read m (task (number_of s) YOUNGEST))) NONE) ≡ some_spot
      (λ o. both (is_child (name_of o) (name_of s)) (g (rights_of o))) xs
  same_child g s i =
      same_test _ _
      (λ e.
      let found = sibling 128 f recs (read m (task (number_of s) YOUNGEST)) in
      let w = found_on recs f 128 _ found refl (is_not _ e) in
      let v = on_child m T xs play h s found i (subst (λ (x : ℕ). On recs x found) (sym (record_word m (number_of s) YOUNGEST)) w.0) in
      says_some _ xs v.0 v.2
      (true_both (ap (λ (x : Name). is_child x (name_of s)) v.4 ∙ says_child v.1 (name_of s))
      (subst (λ (x : ℕ). g x ≡ true) (ap (rights_in m) (sym v.3) ∙ same_rights v.0 v.2) w.1)))
      (λ e.
      let w = some_says _ xs e in
      let b = both_true _ _ w.2 in
      let n = child_says (name_of w.0) (name_of s) b.0 in
      let d = child_on m T xs play h s w.0 n.0 i w.1 n.1 in
      let k = youngest_ends s i in
      not_is _
      (on_found recs f 128 k.0 _ (number_of w.0) k.1 (ap (walk (λ x. load (recs x) OLDER) k.0) (sym (record_word m (number_of s) YOUNGEST)) ∙ k.2)
      (subst (λ (x : ℕ). On recs x (number_of w.0)) (record_word m (number_of s) YOUNGEST) d)
      (subst (λ (x : ℕ). g x ≡ true) (sym (same_rights w.0 w.1)) b.1)))
    where
      f : ℕ → Bool
      f x = g (rights_in m x)

  -- "Pop and test wait while a child of the caller with pop right on q is unfinished."
  pub same_child_pops : (q : ℕ) (s : Task) → In (spot s) xs → childPopsIn m (number_of s) q ≡ child_pops q (number_of s) xs
  unfolding childPopsIn child_pops
  same_child_pops q s i = same_child (λ r. pops r q) s i ∙ sym (pair_is xs (played_reached play) _ s i)

  -- "Sync and finish wait while any child is unfinished."
  pub same_has_child : (s : Task) → In (spot s) xs → hasChildIn m (number_of s) ≡ has_child (number_of s) xs
  unfolding hasChildIn has_child
  same_has_child s i =
      same_test _ _
      (λ e.
      ⊎_elim
      (λ d. absurd (is_not _ e (sym (word_is m (number_of s) YOUNGEST) ∙ d)))
      (λ w.
      let v = link_child m T xs play h (number_of s) _ w.0 in
      let p = same_number xs (played_reached play) v.1 s v.4 i v.6 in
      pair_is xs (played_reached play) _ s i
      ∙ says_some _ xs v.0 v.3 (ap (λ (x : Name). is_child x (name_of s)) (v.7 ∙ ap (λ (x : Task). v.2 ∷ name_of x) p) ∙ says_child v.2 (name_of s)))
      ((rules m T xs h).youngest_linked (number_of s) (inr (spot_unfinished m T xs h s i))))
      (λ e.
      let w = some_says _ xs (sym (pair_is xs (played_reached play) _ s i) ∙ e) in
      let n = child_says (name_of w.0) (name_of s) w.2 in
      let l = on_below recs (child_on m T xs play h s w.0 n.0 i w.1 n.1) in
      let d = record_word m (number_of s) YOUNGEST in
      not_is (read m (task (number_of s) YOUNGEST)) (λ z. omega (arith, l, d, z)))
