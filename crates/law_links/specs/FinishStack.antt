-- THE FREE RECORDS AND THE TOP AFTER A FINISH: the record of the task goes to the stack.
use Rattle.std.specs.Prelude.{◌≡◌, true, ◌⊎◌, ℕ, suc, ◌+◌, ◌-◌, ◌*◌, ◌<◌, ◌≤◌, length, drop, take}
use Rattle.std.proofs.Common.{ap, ap₂, sym, ◌∙◌, inl, inr, ⊎_elim, arith, length-append}
use mathlib.Core.List.{List, [], ◌∷◌, ◌++◌, head-eq_of_cons-eq}
use Rattle.spec_lists.specs.Counting.{occurrences, equal?, occurs_here, occurs_past, occurs_append, occurs_nil}
use Rattle.spec_layout.specs.Layout.{FREE_TASKS, STATUS, RIGHTS, PARENT, free_tasks, read}
use Rattle.spec_rules.specs.Contents.{Contents, decode, word}
use Rattle.spec_rules.specs.Test.{top_test, idle_test}
use Rattle.law_rules_tasks.specs.Tested.{Top, Idle, top_says, says_top, idle_says, says_idle}
use Rattle.law_rules_tasks.specs.Visits.{busy}
use Rattle.spec_order.specs.Steps.{Item}
use Rattle.law_links.specs.Row.{older}
use Rattle.law_links.specs.Linked.{Linked, word_is, tree}
use Rattle.law_links.specs.Idle.{idle_height, idle_length, idle_last, same_stack}
use Rattle.law_links.specs.Finish.{Finished, AfterFinish}

module _ (m n : List ℕ) (T : List ℕ) (xs : List Item) (h : Linked m T xs) (t : ℕ) (w : Finished m n t) (stay : AfterFinish m n t)
    (b a : List ℕ) (here : T ≡ b ++ t ∷ (128 + t) ∷ a) (small : t < 128) (above : 0 < t) where
  open stay use {there, older_is, fixed, younger_stays, older_stays}

  abbrev c : Contents
  c = decode m

  abbrev d : Contents
  d = decode n

  free : Idle c
  free = idle_says c h.idle

  few : length c.idle ≤ 126
  few =
      let e = h.many in
      let f = ap length here in
      let g = length-append b (t ∷ (128 + t) ∷ a) in
      let i = in_front b (sym here ∙ h.first.1) in
      omega (arith, e, f, g, i)
    where
      in_front : (l : List ℕ) → l ++ t ∷ (128 + t) ∷ a ≡ 0 ∷ h.first.0 → 1 ≤ length l
      in_front [] e = let g = head-eq_of_cons-eq e in let z : ⊥ = omega (arith, g, above) in absurd z
      in_front (x ∷ l) e = omega arith

  high : read m free_tasks ≡ length c.idle
  high =
      let l = few in
      let k = idle_height m h.sized (omega (arith, l)) in
      sym (idle_length m h.sized (omega (arith, k)))

  -- the stack, with the freed record last
  stacked : d.idle ≡ c.idle ++ (t ∷ [])
  stacked =
      let e = w.height in
      let k = high in
      let l = few in
      ap (λ (i : ℕ). take i (drop FREE_TASKS n)) (e ∙ (let z : read m free_tasks + 1 ≡ suc (read m free_tasks) = omega arith in z))
      ∙ idle_last n w.sized (read m free_tasks) (omega (arith, k, l))
      ∙ ap₂ (λ (i : List ℕ) (x : ℕ). i ++ (x ∷ [])) (same_stack m n h.sized w.sized (read m free_tasks) (omega (arith, k, l)) w.stack) w.given

  more : (x : ℕ) → occurrences x d.idle ≡ occurrences x c.idle + occurrences x (t ∷ [])
  more x = ap (occurrences x) stacked ∙ occurs_append x c.idle (t ∷ [])

  -- a record of the stack is t, or was there
  either_way : (x : ℕ) → 0 < occurrences x d.idle → (x ≡ t) ⊎ ((x ≡ t → ⊥) × (0 < occurrences x c.idle))
  either_way x q =
      ⊎_elim
      (λ e. inl (sym e))
      (λ e. let f = more x in let g = occurs_past t x [] e in let i = occurs_nil x in inr ((λ s. e (sym s)), omega (arith, f, g, i, q)))
      (equal? t x)

  not_idle : occurrences t c.idle ≡ 0
  not_idle = busy c free (tree m T xs h) t (inr there)

  idle_grows : Idle d
  idle_grows =
      record {
        few = let e = ap length stacked ∙ length-append c.idle (t ∷ []) in let l = few in omega (arith, e, l);
        apart = record {
          below = λ x q. ⊎_elim (λ e. omega (arith, e, small)) (λ v. free.apart.below x v.1) (either_way x q);
          once = λ x.
              let e = more x in
              let f = free.apart.once x in
              let i = occurs_nil x in
              ⊎_elim
              (λ s. let g = occurs_here t x [] s in let j = not_idle in let k = ap (λ (u : ℕ). occurrences u c.idle) s in omega (arith, e, g, i, j, k))
              (λ s. let g = occurs_past t x [] s in omega (arith, e, f, g, i))
              (equal? t x);
        };
        above = λ x q. ⊎_elim (λ e. omega (arith, e, above)) (λ v. free.above x v.1) (either_way x q);
        free = λ x q.
            ⊎_elim
            (λ e. ap (λ (u : ℕ). word d u STATUS) e ∙ word_is n t STATUS ∙ w.status)
            (λ v. fixed x STATUS (free.apart.below x v.1) (omega arith) v.0 ∙ free.free x v.1)
            (either_way x q);
      }

  top_stays : Top d
  top_stays =
      let k = top_says c h.top in
      let z : 0 ≡ t → ⊥ = λ e. omega (arith, e, above) in
      record {
        status = inl (fixed 0 STATUS (omega arith) (omega arith) z ∙ word_is m 0 STATUS ∙ h.running);
        rights = fixed 0 RIGHTS (omega arith) (omega arith) z ∙ k.rights;
        parent = fixed 0 PARENT (omega arith) (omega arith) z ∙ k.parent;
        older = older_stays 0 (omega arith) z (λ e. let f = k.older in omega (arith, e, f, small)) ∙ k.older;
        younger = younger_stays 0 (omega arith) z
            (λ e. ⊎_elim (λ f. omega (arith, e, f)) (λ f. f.0.0 (sym e)) older_is) ∙ k.younger;
      }

  pub cut_top : top_test d ≡ true
  cut_top = says_top d top_stays

  pub cut_idle : idle_test d ≡ true
  cut_idle = says_idle d idle_grows

  pub cut_many : length (b ++ a) ≡ 2 * (128 - length d.idle)
  cut_many =
      let e = h.many in
      let f = ap length here in
      let g = length-append b (t ∷ (128 + t) ∷ a) in
      let i = length-append b a in
      let j = ap length stacked ∙ length-append c.idle (t ∷ []) in
      let k = few in
      omega (arith, e, f, g, i, j, k)
