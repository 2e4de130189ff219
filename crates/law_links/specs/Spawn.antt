-- THE WORDS OF THE TREE AFTER A SPAWN: the record of the child was free, and which words stay.
use Rattle.std.specs.Prelude.{◌≡◌, refl, List, [], ◌∷◌, ◌++◌, ◌⊎◌, ℕ, suc, ◌+◌, ◌<◌, ◌≤◌, drop, take}
use Rattle.std.proofs.Common.{ap, ap₂, sym, ◌∙◌, subst, inl, inr, ⊎_elim, eq-zero-or-pos, arith}
use Rattle.spec_words.specs.Words.{size}
use Rattle.spec_lists.specs.Counting.{occurrences, occurs_here, occurs_append}
use Rattle.spec_layout.specs.Layout.{WORDS, NONE, FREE_TASKS, STATUS, PARENT, OLDER, YOUNGER, YOUNGEST, FREE, UNFINISHED, free_tasks, free_task, task}
use Rattle.spec_layout.specs.Layout.{rights_of, read}
use Rattle.spec_rules.specs.Contents.{Contents, decode, word}
use Rattle.spec_rules.specs.Rules.{Unfinished}
use Rattle.law_rules_tasks.specs.Marks.{Kin}
use Rattle.law_rules_tasks.specs.Tested.{Idle, idle_says}
use Rattle.spec_order.specs.Steps.{Item}
use Rattle.law_links.specs.Linked.{Linked, word_is, rules}
use Rattle.law_links.specs.Idle.{idle_height, idle_last, same_stack}
use Rattle.law_links.specs.Marks.{free_unmarked, unfinished_entered}

-- n is m with child u of t, which has rights r and is the youngest child from now on
pub record Spawned (m n : List ℕ) (t r u : ℕ) : Type 0 where
  pub sized : size n ≡ WORDS
  pub status : read n (task u STATUS) ≡ UNFINISHED
  pub rights : rights_of n u ≡ r
  pub parent : read n (task u PARENT) ≡ t
  pub older_is : read n (task u OLDER) ≡ read m (task t YOUNGEST)
  pub younger : read n (task u YOUNGER) ≡ NONE
  pub youngest : read n (task u YOUNGEST) ≡ NONE
  pub parents_youngest : read n (task t YOUNGEST) ≡ u
  pub siblings_younger : (read m (task t YOUNGEST) ≡ NONE → ⊥) → read n (task (read m (task t YOUNGEST)) YOUNGER) ≡ u
  -- all other words of the tree stay
  pub others : (x k : ℕ) → x < 128 → k < 6 → (x ≡ u → ⊥) → ((x ≡ t) × (k ≡ YOUNGEST) → ⊥) → ((x ≡ read m (task t YOUNGEST)) × (k ≡ YOUNGER) → ⊥)
      → read n (task x k) ≡ read m (task x k)
  -- the record came from the stack
  pub height : read m free_tasks ≡ read n free_tasks + 1
  pub taken : read m (free_task (read n free_tasks)) ≡ u
  pub stack : (i : ℕ) → i < read n free_tasks → read n (free_task i) ≡ read m (free_task i)

-- What is known of the words then: the new record, the spawner, its youngest child of before, and the words that stay.
module _ (m n : List ℕ) (t u : ℕ) where
  abbrev c : Contents
  c = decode m

  abbrev d : Contents
  d = decode n

  abbrev o : ℕ
  o = read m (task t YOUNGEST)

  pub record AfterSpawn : Type 0 where
    pub child_above : 0 < u
    pub child_below : u < 128
    pub apart : (x : ℕ) → Unfinished c x → x ≡ u → ⊥
    pub spawner : Unfinished c t
    pub sibling : (o ≡ NONE) ⊎ (Kin c o t NONE × Unfinished c o)
    -- the stack, with the new record last
    pub stacked : c.idle ≡ d.idle ++ (u ∷ [])
    pub stays : (x k : ℕ) → Unfinished c x → k < 6 → (k ≡ YOUNGEST → x ≡ t → ⊥) → (k ≡ YOUNGER → x ≡ o → ⊥) → word d x k ≡ word c x k

  -- the words of a task that was there, by its number
  pub kept_word : AfterSpawn → (x k : ℕ) → Unfinished c x → k < 6 → (k ≡ YOUNGEST → ⊥) → (k ≡ YOUNGER → ⊥) → read n (task x k) ≡ read m (task x k)
  kept_word s x k v l f g = sym (word_is n x k) ∙ s.stays x k v l (λ q e. f q) (λ q e. g q) ∙ word_is m x k

  module _ (r : ℕ) (w : Spawned m n t r u) (T : List ℕ) (xs : List Item) (h : Linked m T xs) (small : t < 128) (mine : 0 < occurrences t T) where
    free : Idle c
    free = idle_says c h.idle

    high : read m free_tasks ≤ 127
    high = idle_height m h.sized free.few

    stacked : c.idle ≡ d.idle ++ (u ∷ [])
    stacked =
        let e = w.height in
        let l = high in
        ap (λ (k : ℕ). take k (drop FREE_TASKS m)) (e ∙ (let z : read n free_tasks + 1 ≡ suc (read n free_tasks) = omega arith in z))
        ∙ idle_last m h.sized (read n free_tasks) (omega (arith, e, l))
        ∙ ap₂ (λ (k : List ℕ) (x : ℕ). k ++ (x ∷ []))
        (sym (same_stack m n h.sized w.sized (read n free_tasks) (omega (arith, e, l)) w.stack)) w.taken

    among : 0 < occurrences u c.idle
    among =
        let e = ap (occurrences u) stacked in
        let f = occurs_append u d.idle (u ∷ []) in
        let g = occurs_here u u [] refl in
        omega (arith, e, f, g)

    was_free : word c u STATUS ≡ FREE
    was_free = free.free u among

    -- so it has no mark
    pub unmarked : (occurrences u T ≡ 0) × (occurrences (128 + u) T ≡ 0)
    unmarked = free_unmarked m T xs h u (free.apart.below u among) was_free

    others : (x : ℕ) → Unfinished c x → x ≡ u → ⊥
    others x v e = let f = v.1 in let g = ap (λ (y : ℕ). word c y STATUS) e in let k = was_free in omega (arith, f, g, k)

    spawner : Unfinished c t
    spawner = unfinished_entered m T xs h t small mine

    -- the youngest child of before, if there is one
    sibling : (o ≡ NONE) ⊎ (Kin c o t NONE × Unfinished c o)
    sibling =
        ⊎_elim
        (λ e. inl (sym (word_is m t YOUNGEST) ∙ e))
        (λ v.
        let e = word_is m t YOUNGEST in
        inr (subst (λ (x : ℕ). Kin c x t NONE × Unfinished c x) e (
          record {
            above = ⊎_elim (λ z. absurd (v.0.0 z)) (λ z. z) (eq-zero-or-pos _);
            below = v.0.1.0.0;
            status = v.0.1.0.1;
            parent = v.0.1.1;
            younger = v.1;
            rights = (rules m T xs h).child_rights _ t v.0;
          },
          v.0.1.0,
        )))
        ((rules m T xs h).youngest_linked t (inr spawner))

    pub after_spawn : AfterSpawn
    after_spawn =
        record {
          child_above = free.above u among;
          child_below = free.apart.below u among;
          apart = others;
          spawner = spawner;
          sibling = sibling;
          stacked = stacked;
          stays = λ x k v l f g.
              word_is n x k ∙ w.others x k v.0 l (others x v) (λ e. f e.1 e.0) (λ e. g e.1 e.0) ∙ sym (word_is m x k);
        }
