-- The words of a spawn have the new links.
use Rattle.std.specs.Prelude.{◌≡◌, Bool, ◌⊎◌, ℕ, ◌+◌, ◌-◌, ◌*◌, ◌<◌, ◌≤◌, eqb, length, get_or}
use Rattle.std.proofs.Math.Path.{refl, ap}
use Rattle.std.proofs.Common.{sym, ◌∙◌, subst, inl, inr, ⊎_elim, arith, ne_eqb}
use Rattle.std.proofs.Math.Bool.{true, false}
use mathlib.Core.List.{List, [], ◌∷◌}
use Rattle.std.proofs.lemmas.Bool.{eqb-false}
use Rattle.spec_words.specs.Words.{size, load_other, pick, pick_true, pick_false, pass, halt}
use Rattle.spec_words.specs.Blocks.{store_all, size_store_all}
use Rattle.spec_lists.specs.Counting.{equal?}
use Rattle.spec_layout.specs.Layout.{WORDS, NONE, TASKS, TASK_WORDS, STATUS, RIGHTS, PARENT, OLDER, YOUNGER, YOUNGEST, UNFINISHED, USER, Field}
use Rattle.spec_layout.specs.Layout.{free_tasks, free_task, task, queue_head, head, tail, address, read, write}
use Rattle.spec_layout.proofs.Frame.{size_write, read_same, read_other}
use Rattle.spec_outcomes.specs.Spawn.{for_queues, kept_queue, kept_user, child_views, passed_on, child_made}
use Rattle.law_links.specs.Blocks.{block_in, block_task, block_word, block_front}
use Rattle.law_links.specs.Spawn.{Spawned}

-- n has the same words of the tree as m, and the same words in front of the task records
pub record SameTree (m n : List ℕ) : Type 0 where
  pub sized : size n ≡ WORDS
  pub words : (x k : ℕ) → k < 6 → read n (task x k) ≡ read m (task x k)
  pub front : (f : Field) → address f < 1472 → read n f ≡ read m f

pub tree_trans : {l m n : List ℕ} → SameTree l m → SameTree m n → SameTree l n
tree_trans a b = record { sized = b.sized; words = λ x k l. b.words x k l ∙ a.words x k l; front = λ f l. b.front f l ∙ a.front f l }

-- a block behind the links of a record
pub block_tree : (m : List ℕ) → size m ≡ WORDS → (c k0 : ℕ) (ws : List ℕ) → c < 128 → 6 ≤ k0 → k0 + length ws ≤ 48
    → SameTree m (store_all m (address (task c k0)) ws)
block_tree m s c k0 ws l a f =
    record {
      sized = size_store_all m (address (task c k0)) ws ∙ s;
      words = λ x k i.
          ⊎_elim
          (λ e. subst (λ (y : ℕ). read (store_all m (address (task c k0)) ws) (task y k) ≡ read m (task y k)) (sym e)
          (block_word m s c k0 ws l f k (inl (omega (arith, i, a)))))
          (λ n. block_task m s c k0 ws l f x k (omega (arith, i)) n)
          (equal? x c);
      front = λ g i. block_front m s c k0 ws l f g i;
    }

-- a write to another word of a task
pub other_word : (m : List ℕ) (x k y j v : ℕ) → x < 128 → k < 48 → y < 128 → j < 48 → ((x ≡ y) × (k ≡ j) → ⊥)
    → read (write m (task y j) v) (task x k) ≡ read m (task x k)
other_word m x k y j v a b d e n = read_other m (task y j) (task x k) v (d, e) (a, b) (λ q. n (same q))
  where
    same : task x k ≡ task y j → (x ≡ y) × (k ≡ j)
    same q = (cc, cc)

-- a write to a task leaves the words in front alone
pub away : (n : List ℕ) (y j v : ℕ) (f : Field) → address f < 1472 → read (write n (task y j) v) f ≡ read n f
unfolding read write address
away n y j v f l = load_other n (TASKS + y * TASK_WORDS + j) (address f) v (λ e. omega (arith, e, l))

views_length : (m : List ℕ) (t r : ℕ) → length (child_views m t r) ≡ 28
unfolding child_views for_queues
views_length m t r = refl

-- four words of a record
pub four_tree : (m : List ℕ) → size m ≡ WORDS → (c k0 : ℕ) (f : ℕ → ℕ) → c < 128 → 6 ≤ k0 → k0 ≤ 44
    → SameTree m (store_all m (address (task c k0)) (for_queues f))
unfolding for_queues
four_tree m s c k0 f l a b = block_tree m s c k0 (f 0 ∷ f 1 ∷ f 2 ∷ f 3 ∷ []) l a (omega (arith, b))

passed_tree : (m : List ℕ) (t r : ℕ) → t < 128 → size m ≡ WORDS → SameTree m (passed_on m t r)
unfolding passed_on
passed_tree m t r l s =
    let a = four_tree m s t 16 (λ q. kept_queue r (read m (queue_head t q)) q) l (omega arith) (omega arith) in
    let b = four_tree _ a.sized t 24 (λ q. kept_user r (read m (head USER t q)) q) l (omega arith) (omega arith) in
    tree_trans a (tree_trans b (four_tree _ b.sized t 36 (λ q. kept_user r (read m (tail USER t q)) q) l (omega arith) (omega arith)))

-- CHILD c OF t, on words m0: its record, its views, the spawner's views, and two links
module _ (m0 : List ℕ) (sized : size m0 ≡ WORDS) (t r c : ℕ) (small : t < 128) (new : c < 128) where
  abbrev o : ℕ
  o = read m0 (task t YOUNGEST)

  abbrev links : List ℕ
  links = UNFINISHED ∷ r ∷ t ∷ o ∷ NONE ∷ NONE ∷ []

  abbrev m1 : List ℕ
  m1 = store_all m0 (address (task c 0)) links

  abbrev m2 : List ℕ
  m2 = store_all m1 (address (task c 16)) (child_views m0 t r)

  abbrev m3 : List ℕ
  m3 = write (passed_on m2 t r) (task t YOUNGEST) c

  sized1 : size m1 ≡ WORDS
  sized1 = size_store_all m0 (address (task c 0)) links ∙ sized

  views_tree : SameTree m1 (passed_on m2 t r)
  views_tree =
      let e = views_length m0 t r in
      let a = block_tree m1 sized1 c 16 (child_views m0 t r) new (omega arith) (omega (arith, e)) in
      tree_trans a (passed_tree m2 t r small a.sized)

  -- the child's links
  own_link : (k : ℕ) → k < 6 → read (passed_on m2 t r) (task c k) ≡ get_or links k 0
  own_link k l = views_tree.words c k l ∙ block_in m0 sized c 0 links new (omega arith) k k (omega arith) (omega (arith, l))

  -- the others' links
  others_link : (x k : ℕ) → k < 6 → (x ≡ c → ⊥) → read (passed_on m2 t r) (task x k) ≡ read m0 (task x k)
  others_link x k l n = views_tree.words x k l ∙ block_task m0 sized c 0 links new (omega arith) x k (omega (arith, l)) n

  front_word : (f : Field) → address f < 1472 → read (passed_on m2 t r) f ≡ read m0 f
  front_word f l = views_tree.front f l ∙ block_front m0 sized c 0 links new (omega arith) f l

  abbrev made : List ℕ
  made = child_made m0 t r c

  sized3 : size m3 ≡ WORDS
  sized3 = size_write (passed_on m2 t r) (task t YOUNGEST) c ∙ views_tree.sized

  made_sized : size made ≡ WORDS
  unfolding child_made
  made_sized = go (eqb o NONE)
    where
      go : (b : Bool) → size (pick b m3 (write m3 (task o YOUNGER) c)) ≡ WORDS
      go true = ap size (pick_true m3 _) ∙ sized3
      go false = ap size (pick_false m3 _) ∙ size_write m3 (task o YOUNGER) c ∙ sized3

  -- a word of a task that the last two writes do not touch
  made_link : (x k : ℕ) → x < 128 → k < 6 → ((x ≡ t) × (k ≡ YOUNGEST) → ⊥) → ((x ≡ o) × (k ≡ YOUNGER) → ⊥) → (o ≡ NONE) ⊎ (o < 128)
      → read made (task x k) ≡ read (passed_on m2 t r) (task x k)
  unfolding child_made
  made_link x k l i f g some = go (eqb o NONE) refl
    where
      first : read m3 (task x k) ≡ read (passed_on m2 t r) (task x k)
      first = other_word (passed_on m2 t r) x k t YOUNGEST c l (omega (arith, i)) small (omega arith) f

      go : (b : Bool) → eqb o NONE ≡ b → read (pick (eqb o NONE) m3 (write m3 (task o YOUNGER) c)) (task x k) ≡ read (passed_on m2 t r) (task x k)
      go true e = ap (λ (n : List ℕ). read n (task x k)) (halt m3 _ e) ∙ first
      go false e =
          ap (λ (n : List ℕ). read n (task x k)) (pass m3 e refl)
          ∙ other_word m3 x k o YOUNGER c l (omega (arith, i)) (⊎_elim (λ z. absurd (eqb-false o NONE e z)) (λ z. z) some) (omega arith) g
          ∙ first

  made_front : (f : Field) → address f < 1472 → read made f ≡ read m0 f
  unfolding child_made
  made_front f l = go (eqb o NONE) ∙ away (passed_on m2 t r) t YOUNGEST c f l ∙ front_word f l
    where
      go : (b : Bool) → read (pick b m3 (write m3 (task o YOUNGER) c)) f ≡ read m3 f
      go true = ap (λ (n : List ℕ). read n f) (pick_true m3 _)
      go false = ap (λ (n : List ℕ). read n f) (pick_false m3 _) ∙ away m3 o YOUNGER c f l

  -- the spawner's youngest child, and the younger sibling of the one before
  made_youngest : (t ≡ c → ⊥) → (o ≡ NONE) ⊎ (o < 128) → read made (task t YOUNGEST) ≡ c
  unfolding child_made
  made_youngest n some = go (eqb o NONE) refl
    where
      first : read m3 (task t YOUNGEST) ≡ c
      first = read_same (passed_on m2 t r) (task t YOUNGEST) c views_tree.sized (small, omega arith)

      go : (b : Bool) → eqb o NONE ≡ b → read (pick (eqb o NONE) m3 (write m3 (task o YOUNGER) c)) (task t YOUNGEST) ≡ c
      go true e = ap (λ (k : List ℕ). read k (task t YOUNGEST)) (halt m3 _ e) ∙ first
      go false e =
          ap (λ (k : List ℕ). read k (task t YOUNGEST)) (pass m3 e refl)
          ∙ other_word m3 t YOUNGEST o YOUNGER c small (omega arith) (⊎_elim (λ z. absurd (eqb-false o NONE e z)) (λ z. z) some) (omega arith)
          (λ q. let e = q.1 in omega (arith, e))
          ∙ first

  made_sibling : (o ≡ NONE → ⊥) → o < 128 → read made (task o YOUNGER) ≡ c
  unfolding child_made
  made_sibling n l = ap (λ (k : List ℕ). read k (task o YOUNGER)) (pass m3 (ne_eqb o NONE n) refl) ∙ read_same m3 (task o YOUNGER) c sized3 (l, omega arith)

-- A SPAWN: the record used next is taken from the stack.
module _ (m : List ℕ) (s : size m ≡ WORDS) (t r u : ℕ) (l : t < 128) (some : 0 < read m free_tasks) (few : read m free_tasks ≤ 127)
    (is : u ≡ read m (free_task (read m free_tasks - 1))) (new : u < 128) (n1 : t ≡ u → ⊥) (n2 : read m (task t YOUNGEST) ≡ u → ⊥)
    (kind : (read m (task t YOUNGEST) ≡ NONE) ⊎ (read m (task t YOUNGEST) < 128)) where
  abbrev h : ℕ
  h = read m free_tasks - 1

  abbrev m0 : List ℕ
  m0 = write m free_tasks h

  s0 : size m0 ≡ WORDS
  s0 = size_write m free_tasks h ∙ s

  -- the height stands in front of all else
  behind : (f : Field) → 3 < address f → read m0 f ≡ read m f
  unfolding read write address
  behind f i = load_other m 3 (address f) h (λ e. omega (arith, e, i))

  task_behind : (x k : ℕ) → read m0 (task x k) ≡ read m (task x k)
  unfolding address
  task_behind x k = behind (task x k) (omega arith)

  o0 : read m0 (task t YOUNGEST) ≡ read m (task t YOUNGEST)
  o0 = task_behind t YOUNGEST

  kind0 : (read m0 (task t YOUNGEST) ≡ NONE) ⊎ (read m0 (task t YOUNGEST) < 128)
  kind0 = ⊎_elim (λ e. inl (o0 ∙ e)) (λ e. let f = o0 in inr (omega (arith, e, f))) kind

  abbrev n : List ℕ
  n = child_made m0 t r u

  own_word : (k : ℕ) → k < 6 → read n (task u k) ≡ get_or (links m0 s0 t r u l new) k 0
  own_word k i =
      made_link m0 s0 t r u l new u k new i (λ e. n1 (sym e.0)) (λ e. n2 (sym o0 ∙ sym e.0)) kind0 ∙ own_link m0 s0 t r u l new k i

  height_word : read n free_tasks ≡ h
  unfolding address
  height_word = made_front m0 s0 t r u l new free_tasks (omega arith) ∙ read_same m free_tasks h s (omega arith)

  stack_word : (i : ℕ) → i < 128 → read n (free_task i) ≡ read m (free_task i)
  unfolding address
  stack_word i k = made_front m0 s0 t r u l new (free_task i) (omega (arith, k)) ∙ behind (free_task i) (omega arith)

  pub spawn_words : Spawned m n t r u
  spawn_words =
      record {
        sized = made_sized m0 s0 t r u l new;
        status = own_word STATUS (omega arith);
        rights = own_word RIGHTS (omega arith);
        parent = own_word PARENT (omega arith);
        older_is = own_word OLDER (omega arith) ∙ o0;
        younger = own_word YOUNGER (omega arith);
        youngest = own_word YOUNGEST (omega arith);
        parents_youngest = made_youngest m0 s0 t r u l new n1 kind0;
        siblings_younger = λ e.
            ap (λ (x : ℕ). read n (task x YOUNGER)) (sym o0)
            ∙ made_sibling m0 s0 t r u l new (λ f. e (sym o0 ∙ f)) (⊎_elim (λ f. absurd (e (sym o0 ∙ f))) (λ f. f) kind0);
        others = λ x k i j a b d.
            made_link m0 s0 t r u l new x k i j b (λ e. d (e.0 ∙ o0, e.1)) kind0
            ∙ others_link m0 s0 t r u l new x k j a
            ∙ task_behind x k;
        height = let e = height_word in omega (arith, e, some);
        taken = ap (λ (i : ℕ). read m (free_task i)) height_word ∙ sym is;
        stack = λ i k. stack_word i (let e = height_word in omega (arith, e, k, few));
      }
