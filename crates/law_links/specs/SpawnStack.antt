-- THE FREE RECORDS AND THE TOP AFTER A SPAWN: the record of the child is gone from the stack.
use Rattle.std.specs.Prelude.{◌≡◌, true, List, [], ◌∷◌, ◌++◌, ℕ, ◌+◌, ◌-◌, ◌*◌, ◌<◌, length}
use Rattle.std.proofs.Common.{ap, sym, ◌∙◌, inl, ⊎_elim, arith, length-append}
use Rattle.spec_lists.specs.Counting.{occurrences, occurs_here, occurs_append}
use Rattle.spec_layout.specs.Layout.{STATUS, RIGHTS, PARENT, OLDER, YOUNGER, YOUNGEST}
use Rattle.spec_rules.specs.Contents.{Contents, decode, word}
use Rattle.spec_rules.specs.Rules.{Unfinished}
use Rattle.spec_rules.specs.Test.{top_test, idle_test}
use Rattle.law_rules_tasks.specs.Tested.{Top, Idle, top_says, says_top, idle_says, says_idle}
use Rattle.spec_order.specs.Steps.{Item}
use Rattle.law_links.specs.Row.{older}
use Rattle.law_links.specs.Linked.{Linked, word_is}
use Rattle.law_links.specs.Spawn.{Spawned, AfterSpawn}

module _ (m n : List ℕ) (T : List ℕ) (xs : List Item) (h : Linked m T xs) (t r u : ℕ) (w : Spawned m n t r u) (stay : AfterSpawn m n t u)
    (b a : List ℕ) (here : T ≡ b ++ t ∷ a) where
  open stay use {sibling, stacked, stays}

  abbrev c : Contents
  c = decode m

  abbrev d : Contents
  d = decode n

  free : Idle c
  free = idle_says c h.idle

  top_stays : Top d
  top_stays =
      let k = top_says c h.top in
      let z : Unfinished c 0 = (omega arith, word_is m 0 STATUS ∙ h.running) in
      let no : (i : ℕ) → (i ≡ YOUNGEST → ⊥) → (i ≡ YOUNGER → ⊥) → i < 6 → word d 0 i ≡ word c 0 i = λ i x y l. stays 0 i z l (λ q e. x q) (λ q e. y q) in
      record {
        status = inl (no STATUS (λ q. omega (arith, q)) (λ q. omega (arith, q)) (omega arith) ∙ z.1);
        rights = no RIGHTS (λ q. omega (arith, q)) (λ q. omega (arith, q)) (omega arith) ∙ k.rights;
        parent = no PARENT (λ q. omega (arith, q)) (λ q. omega (arith, q)) (omega arith) ∙ k.parent;
        older = no OLDER (λ q. omega (arith, q)) (λ q. omega (arith, q)) (omega arith) ∙ k.older;
        younger = stays 0 YOUNGER z (omega arith) (λ q. let f : ⊥ = omega (arith, q) in absurd f)
            (λ q e. ⊎_elim (λ f. omega (arith, e, f)) (λ f. let g = f.0.above in omega (arith, e, g)) sibling) ∙ k.younger;
      }

  fewer : (x : ℕ) → occurrences x c.idle ≡ occurrences x d.idle + occurrences x (u ∷ [])
  fewer x = ap (occurrences x) stacked ∙ occurs_append x d.idle (u ∷ [])

  one_fewer : length c.idle ≡ length d.idle + 1
  one_fewer = ap length stacked ∙ length-append d.idle (u ∷ [])

  idle_stays : Idle d
  idle_stays =
      record {
        few = let e = one_fewer in let f = free.few in omega (arith, e, f);
        apart = record {
          below = λ x p. free.apart.below x (was x p);
          once = λ x. let e = fewer x in let f = free.apart.once x in omega (arith, e, f);
        };
        above = λ x p. free.above x (was x p);
        free = λ x p.
            word_is n x STATUS
            ∙ w.others x STATUS (free.apart.below x (was x p)) (omega arith)
            (λ q. let e = fewer x in let f = free.apart.once x in let g = occurs_here u x [] (sym q) in omega (arith, e, f, g, p))
            (λ q. let e = q.1 in omega (arith, e)) (λ q. let e = q.1 in omega (arith, e))
            ∙ sym (word_is m x STATUS)
            ∙ free.free x (was x p);
      }
    where
      was : (x : ℕ) → 0 < occurrences x d.idle → 0 < occurrences x c.idle
      was x p = let e = fewer x in omega (arith, e, p)

  pub new_many : length (b ++ t ∷ u ∷ (128 + u) ∷ a) ≡ 2 * (128 - length d.idle)
  new_many =
      let e = h.many in
      let f = ap length here in
      let g = length-append b (t ∷ a) in
      let i = length-append b (t ∷ u ∷ (128 + u) ∷ a) in
      let j = one_fewer in
      let k = free.few in
      omega (arith, e, f, g, i, j, k)

  pub top_is : top_test d ≡ true
  top_is = says_top d top_stays

  pub idle_is : idle_test d ≡ true
  idle_is = says_idle d idle_stays
