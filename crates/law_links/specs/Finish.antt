-- THE WORDS OF THE TREE AFTER A FINISH: which of them stay.
use Rattle.std.specs.Prelude.{◌≡◌, List, ◌⊎◌, ℕ, ◌+◌, ◌<◌, ◌≤◌}
use Rattle.std.proofs.Common.{ap, sym, ◌∙◌, subst, inl, inr, ⊎_elim, arith}
use Rattle.spec_words.specs.Words.{size}
use Rattle.spec_lists.specs.Counting.{occurrences, equal?}
use Rattle.spec_layout.specs.Layout.{WORDS, NONE, FREE, STATUS, PARENT, OLDER, YOUNGER, YOUNGEST, task, free_tasks, free_task, read}
use Rattle.spec_rules.specs.Contents.{Contents, decode, word}
use Rattle.spec_rules.specs.Rules.{Unfinished, Child, TaskRules}
use Rattle.spec_order.specs.Steps.{Item}
use Rattle.law_links.specs.Linked.{Linked, word_is, rules}
use Rattle.law_links.specs.Marks.{unfinished_entered}

-- n is m without task t, which leaves the list of its siblings, and whose record is free
pub record Finished (m n : List ℕ) (t : ℕ) : Type 0 where
  pub sized : size n ≡ WORDS
  pub status : read n (task t STATUS) ≡ FREE
  pub older_younger : (read m (task t OLDER) ≡ NONE → ⊥) → read n (task (read m (task t OLDER)) YOUNGER) ≡ read m (task t YOUNGER)
  pub parents_youngest : read m (task t YOUNGER) ≡ NONE → read n (task (read m (task t PARENT)) YOUNGEST) ≡ read m (task t OLDER)
  pub younger_older : (read m (task t YOUNGER) ≡ NONE → ⊥) → read n (task (read m (task t YOUNGER)) OLDER) ≡ read m (task t OLDER)
  -- all other words of the tree stay
  pub others : (x k : ℕ) → x < 128 → k < 6 → (x ≡ t → ⊥) → ((x ≡ read m (task t OLDER)) × (k ≡ YOUNGER) → ⊥)
      → ((read m (task t YOUNGER) ≡ NONE) × (x ≡ read m (task t PARENT)) × (k ≡ YOUNGEST) → ⊥) → ((x ≡ read m (task t YOUNGER)) × (k ≡ OLDER) → ⊥)
      → read n (task x k) ≡ read m (task x k)
  -- the record goes to the stack
  pub height : read n free_tasks ≡ read m free_tasks + 1
  pub given : read n (free_task (read m free_tasks)) ≡ t
  pub stack : (i : ℕ) → i < read m free_tasks → read n (free_task i) ≡ read m (free_task i)

-- What is known of the words then: the parent and the older sibling of t, and the words of the other tasks that stay.
module _ (m n : List ℕ) (t : ℕ) where
  abbrev c : Contents
  c = decode m

  abbrev d : Contents
  d = decode n

  abbrev o : ℕ
  o = read m (task t OLDER)

  abbrev p : ℕ
  p = read m (task t PARENT)

  pub record AfterFinish : Type 0 where
    pub there : Unfinished c t
    pub parent_there : Unfinished c p
    pub older_is : (o ≡ NONE) ⊎ (Child c p o × (word c o YOUNGER ≡ t))
    -- a word that is no link between siblings, nor to a youngest child
    pub fixed : (x k : ℕ) → x < 128 → k ≤ 2 → (x ≡ t → ⊥) → word d x k ≡ word c x k
    pub younger_stays : (z : ℕ) → z < 128 → (z ≡ t → ⊥) → (z ≡ o → ⊥) → word d z YOUNGER ≡ word c z YOUNGER
    pub youngest_stays : (z : ℕ) → z < 128 → (z ≡ t → ⊥) → (word c z YOUNGEST ≡ t → ⊥) → word d z YOUNGEST ≡ word c z YOUNGEST
    pub older_stays : (z : ℕ) → z < 128 → (z ≡ t → ⊥) → (word c z OLDER ≡ t → ⊥) → word d z OLDER ≡ word c z OLDER
    -- the older sibling of a task: as before, or that of t where t was it
    pub older_now : (x : ℕ) → x < 128 → (x ≡ t → ⊥)
        → (read n (task x OLDER) ≡ read m (task x OLDER)) ⊎ ((read m (task x OLDER) ≡ t) × (read n (task x OLDER) ≡ o))

  -- the first words of the tasks that stay
  pub cut_word : AfterFinish → (x k : ℕ) → x < 128 → k ≤ 2 → (x ≡ t → ⊥) → read n (task x k) ≡ read m (task x k)
  cut_word s x k l i ne = sym (word_is n x k) ∙ s.fixed x k l i ne ∙ word_is m x k

  module _ (w : Finished m n t) (T : List ℕ) (xs : List Item) (h : Linked m T xs) (small : t < 128) (above : 0 < t) (mine : 0 < occurrences t T) where
    abbrev y : ℕ
    y = read m (task t YOUNGER)

    law : TaskRules c
    law = rules m T xs h

    task_there : Unfinished c t
    task_there = unfinished_entered m T xs h t small mine

    as_child : Child c p t
    as_child = ((λ e. omega (arith, e, above)), (task_there, word_is m t PARENT))

    -- the younger sibling, or that t is the youngest
    younger_is : ((y ≡ NONE) × (word c p YOUNGEST ≡ t)) ⊎ (Child c p y × (word c y OLDER ≡ t))
    younger_is =
        let e = word_is m t YOUNGER in
        subst (λ (x : ℕ). ((x ≡ NONE) × (word c p YOUNGEST ≡ t)) ⊎ (Child c p x × (word c x OLDER ≡ t))) e (law.younger_linked t p as_child)

    -- the older sibling
    older_is : (o ≡ NONE) ⊎ (Child c p o × (word c o YOUNGER ≡ t))
    older_is =
        let e = word_is m t OLDER in
        subst (λ (x : ℕ). (x ≡ NONE) ⊎ (Child c p x × (word c x YOUNGER ≡ t))) e (law.older_linked t p as_child)

    -- words that stay
    stays : (x k : ℕ) → x < 128 → k < 6 → (x ≡ t → ⊥) → (k ≡ YOUNGER → x ≡ o → ⊥) → (k ≡ YOUNGEST → y ≡ NONE → x ≡ p → ⊥) → (k ≡ OLDER → x ≡ y → ⊥)
        → word d x k ≡ word c x k
    stays x k l i ne f g j =
        word_is n x k ∙ w.others x k l i ne (λ e. f e.1 e.0) (λ e. g e.2 e.0 e.1) (λ e. j e.1 e.0) ∙ sym (word_is m x k)

    pub after_finish : AfterFinish
    after_finish =
        record {
          there = task_there;
          parent_there = law.parents t p as_child;
          older_is = older_is;
          fixed = λ x k l i ne.
              stays x k l (omega (arith, i)) ne
              (λ e. let z : ⊥ = omega (arith, e, i) in absurd z) (λ e. let z : ⊥ = omega (arith, e, i) in absurd z)
              (λ e. let z : ⊥ = omega (arith, e, i) in absurd z);
          younger_stays = λ z l nz ns.
              stays z YOUNGER l (omega arith) nz (λ e. ns) (λ e. let f : ⊥ = omega (arith, e) in absurd f) (λ e. let f : ⊥ = omega (arith, e) in absurd f);
          youngest_stays = λ z l nz ns.
              stays z YOUNGEST l (omega arith) nz (λ e. let f : ⊥ = omega (arith, e) in absurd f)
              (λ e f g. ⊎_elim (λ v. ns (ap (λ (x : ℕ). word c x YOUNGEST) g ∙ v.1)) (λ v. let q = v.0.1.0.0 in omega (arith, f, q)) younger_is)
              (λ e. let f : ⊥ = omega (arith, e) in absurd f);
          older_stays = λ z l nz ns.
              stays z OLDER l (omega arith) nz (λ e. let f : ⊥ = omega (arith, e) in absurd f) (λ e. let f : ⊥ = omega (arith, e) in absurd f)
              (λ e g. ⊎_elim (λ v. let q = v.0 in omega (arith, g, q, l)) (λ v. ns (ap (λ (x : ℕ). word c x OLDER) g ∙ v.1)) younger_is);
          older_now = λ x l ne.
              ⊎_elim
              (λ e.
              ⊎_elim
              (λ v. let q = v.0 in let z : ⊥ = omega (arith, e, q, l) in absurd z)
              (λ v.
              inr (
                sym (word_is m x OLDER) ∙ ap (λ (u : ℕ). word c u OLDER) e ∙ v.1,
                ap (λ (u : ℕ). read n (task u OLDER)) e ∙ w.younger_older (λ q. let i = v.0.1.0.0 in omega (arith, q, i)),
              ))
              younger_is)
              (λ e.
              inl (sym (word_is n x OLDER)
              ∙ stays x OLDER l (omega arith) ne (λ f. let g : ⊥ = omega (arith, f) in absurd g) (λ f. let g : ⊥ = omega (arith, f) in absurd g) (λ f. e)
              ∙ word_is m x OLDER))
              (equal? x y);
        }
