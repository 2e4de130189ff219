-- spawn: the words of the views of the child and of the spawner.
use Rattle.std.specs.Prelude.{◌≡◌, Bool, List, [], ◌∷◌, ◌++◌, ℕ, ◌+◌, ◌<◌, ◌≤◌, eqb, length}
use Rattle.std.proofs.Math.Path.{refl, ap}
use Rattle.std.proofs.Common.{sym, ◌∙◌, get_or-append-add}
use Rattle.std.proofs.Math.Bool.{true, false}
use native.Mathlib.Omega.{arith}
use Rattle.std.proofs.lemmas.Bool.{eqb-false}
use Rattle.spec_words.specs.Words.{load, size, pick}
use Rattle.spec_words.specs.Blocks.{store_all, size_store_all}
use Rattle.spec_layout.specs.Layout.{WORDS, NONE, YOUNGER, YOUNGEST, UNFINISHED, QUEUE_HEADS, VIEW_WORDS, USER, task, queue_head, head, tail, address}
use Rattle.spec_layout.specs.Layout.{read, write}
use Rattle.spec_tree.specs.Queues.{by_four}
use Rattle.spec_outcomes.specs.Spawn.{for_queues, passed_user, passed_queue, kept_user, kept_queue, no_words, child_views, passed_on, child_made, queues_four}
use Rattle.law_maps.specs.TasksOnly.{TasksOnly, word_only, block_only}
use Rattle.law_maps.specs.Views.{task_other}
use Rattle.law_maps.specs.Records.{record_same, record_other}
use Rattle.law_maps.specs.Kept.{only_then}

-- FOUR WORDS, one for each queue, with others behind them
four_here : (f : ℕ → ℕ) (r : List ℕ) (q : ℕ) → q < 4 → load (for_queues f ++ r) q ≡ f q
unfolding for_queues load
four_here f r q h = by_four (λ p. load (for_queues f ++ r) p ≡ f p) refl refl refl refl q h

four_past : (f : ℕ → ℕ) (r : List ℕ) (i : ℕ) → load (for_queues f ++ r) (4 + i) ≡ load r i
unfolding for_queues load
four_past f r i = get_or-append-add (for_queues f) r i 0

four_only : (f : ℕ → ℕ) (q : ℕ) → q < 4 → load (for_queues f) q ≡ f q
unfolding for_queues load
four_only f q h = by_four (λ p. load (for_queues f) p ≡ f p) refl refl refl refl q h

-- four times the mark for none
none_here : (l : List ℕ) (q : ℕ) → q < 4 → load (no_words ++ l) q ≡ NONE
unfolding for_queues
none_here l q h = four_here (λ p. NONE) l q h

none_past : (l : List ℕ) (i : ℕ) → load (no_words ++ l) (4 + i) ≡ load l i
unfolding for_queues
none_past l i = four_past (λ p. NONE) l i

none_only : (q : ℕ) → q < 4 → load no_words q ≡ NONE
unfolding for_queues
none_only q h = four_only (λ p. NONE) q h

-- THE VIEWS OF A CHILD of t with rights r
module _ (m : List ℕ) (t r : ℕ) where
  views_length : length (child_views m t r) ≡ 28
  unfolding child_views for_queues
  views_length = refl

  module _ (q : ℕ) (hq : q < 4) where
    abbrev pub words : List ℕ
    words = child_views m t r

    pub child_queue : load (child_views m t r) q ≡ passed_queue r (read m (queue_head t q)) q
    unfolding child_views
    child_queue = four_here _ _ q hq

    pub child_heads : (load words (4 + q) ≡ NONE) × (load words (8 + q) ≡ passed_user r (read m (head USER t q)) q) × (load words (12 + q) ≡ NONE)
    unfolding child_views
    child_heads = (
      four_past _ _ q ∙ none_here _ q hq,
      ap (load words) (let e : 8 + q ≡ 4 + (4 + q) = omega arith in e) ∙ four_past _ _ (4 + q) ∙ none_past _ q ∙ four_here _ _ q hq,
      ap (load words) (let e : 12 + q ≡ 4 + (4 + (4 + q)) = omega arith in e)
          ∙ four_past _ _ (4 + (4 + q)) ∙ none_past _ (4 + q) ∙ four_past _ _ q ∙ none_here _ q hq,
    )

    pub child_tails : (load words (16 + q) ≡ NONE) × (load words (20 + q) ≡ passed_user r (read m (tail USER t q)) q) × (load words (24 + q) ≡ NONE)
    unfolding child_views
    child_tails = (
      ap (load words) (let e : 16 + q ≡ 4 + (4 + (4 + (4 + q))) = omega arith in e) ∙ behind q ∙ none_here _ q hq,
      ap (load words) (let e : 20 + q ≡ 4 + (4 + (4 + (4 + (4 + q)))) = omega arith in e) ∙ behind (4 + q) ∙ none_past _ q ∙ four_here _ _ q hq,
      ap (load words) (let e : 24 + q ≡ 4 + (4 + (4 + (4 + (4 + (4 + q))))) = omega arith in e)
          ∙ behind (4 + (4 + q)) ∙ none_past _ (4 + q) ∙ four_past _ _ q ∙ none_only q hq,
    )
      where
        behind : (i : ℕ) → load words (4 + (4 + (4 + (4 + i)))) ≡ load (no_words ++ (for_queues (λ p. passed_user r (read m (tail USER t p)) p) ++ no_words)) i
        behind i = four_past _ _ (4 + (4 + (4 + i))) ∙ none_past _ (4 + (4 + i)) ∙ four_past _ _ (4 + i) ∙ none_past _ i

-- WHAT t KEEPS of its views
module _ (m : List ℕ) (t r : ℕ) (z : size m ≡ WORDS) (ht : t < 128) where
  abbrev heads1 : List ℕ
  heads1 = store_all m (address (queue_head t 0)) (for_queues (λ q. kept_queue r (read m (queue_head t q)) q))

  abbrev heads2 : List ℕ
  heads2 = store_all heads1 (address (head USER t 0)) (for_queues (λ q. kept_user r (read m (head USER t q)) q))

  four_fits : (f : ℕ → ℕ) (k : ℕ) → k ≤ 36 → k + length (for_queues f) ≤ 48
  four_fits f k h = let e = queues_four f in omega (arith, e, h)

  size1 : size heads1 ≡ WORDS
  size1 = size_store_all m _ _ ∙ z

  size2 : size heads2 ≡ WORDS
  size2 = size_store_all heads1 _ _ ∙ size1

  -- one block of four words, at place k of the record
  four_word : (n : List ℕ) (f : ℕ → ℕ) (k q : ℕ) → size n ≡ WORDS → k ≤ 36 → q < 4 → read (store_all n (address (task t k)) (for_queues f)) (task t (k + q)) ≡ f q
  four_word n f k q s h hq = record_same n t k (for_queues f) ht (four_fits f k h) s q (let e = queues_four f in omega (arith, e, hq)) ∙ four_only f q hq

  four_other : (n : List ℕ) (f : ℕ → ℕ) (k u j : ℕ) → k ≤ 36 → j < 48 → (u ≡ t → k ≤ j → j < k + 4 → ⊥)
      → read (store_all n (address (task t k)) (for_queues f)) (task u j) ≡ read n (task u j)
  four_other n f k u j h l d =
      record_other n t k (for_queues f) ht (four_fits f k h) u j l (λ e a b. d e a (let c = queues_four f in omega (arith, b, c)))

  pub passed_only : TasksOnly m (passed_on m t r)
  unfolding passed_on
  passed_only =
      only_then (only_then (block_only m t 16 _ ht (four_fits _ 16 (omega arith))) (block_only heads1 t 24 _ ht (four_fits _ 24 (omega arith))))
      (block_only heads2 t 36 _ ht (four_fits _ 36 (omega arith)))

  pub passed_other : (u j : ℕ) → j < 48 → (u ≡ t → 16 ≤ j → j < 20 → ⊥) → (u ≡ t → 24 ≤ j → j < 28 → ⊥) → (u ≡ t → 36 ≤ j → j < 40 → ⊥)
      → read (passed_on m t r) (task u j) ≡ read m (task u j)
  unfolding passed_on
  passed_other u j l a b c =
      four_other heads2 _ 36 u j (omega arith) l c ∙ four_other heads1 _ 24 u j (omega arith) l b ∙ four_other m _ 16 u j (omega arith) l a

  module _ (q : ℕ) (hq : q < 4) where
    pub passed_queue_lem : read (passed_on m t r) (queue_head t q) ≡ kept_queue r (read m (queue_head t q)) q
    unfolding passed_on
    passed_queue_lem =
        four_other heads2 _ 36 t (16 + q) (omega arith) (omega (arith, hq)) (λ e a b. omega (arith, a, hq))
        ∙ four_other heads1 _ 24 t (16 + q) (omega arith) (omega (arith, hq)) (λ e a b. omega (arith, a, hq))
        ∙ four_word m _ 16 q z (omega arith) hq

    pub passed_head : read (passed_on m t r) (head USER t q) ≡ kept_user r (read m (head USER t q)) q
    unfolding passed_on
    passed_head =
        four_other heads2 _ 36 t (24 + q) (omega arith) (omega (arith, hq)) (λ e a b. omega (arith, a, hq))
        ∙ four_word heads1 _ 24 q size1 (omega arith) hq

    pub passed_tail : read (passed_on m t r) (tail USER t q) ≡ kept_user r (read m (tail USER t q)) q
    unfolding passed_on
    passed_tail = four_word heads2 _ 36 q size2 (omega arith) hq

-- THE WORDS OF THE VIEWS when c is made a child of t, whose youngest child was another task or none
module _ (m : List ℕ) (t r c : ℕ) (z : size m ≡ WORDS) (ht : t < 128) (hc : c < 128) (apart : c ≡ t → ⊥)
    (ho : (read m (task t YOUNGEST) ≡ NONE → ⊥) → read m (task t YOUNGEST) < 128) where
  abbrev linked1 : List ℕ
  linked1 = store_all m (address (task c 0)) (UNFINISHED ∷ r ∷ t ∷ read m (task t YOUNGEST) ∷ NONE ∷ NONE ∷ [])

  abbrev viewed : List ℕ
  viewed = store_all linked1 (address (task c 16)) (child_views m t r)

  views_fit : 16 + length (child_views m t r) ≤ 48
  views_fit = let e = views_length m t r in omega (arith, e)

  size_linked : size linked1 ≡ WORDS
  size_linked = size_store_all m _ _ ∙ z

  size_viewed : size viewed ≡ WORDS
  size_viewed = size_store_all linked1 _ _ ∙ size_linked

  -- the last two writes are links
  abbrev kept3 : List ℕ
  kept3 = write (passed_on viewed t r) (task t YOUNGEST) c

  last_two : (u j : ℕ) → 16 ≤ j → j < 48 → read (child_made m t r c) (task u j) ≡ read (passed_on viewed t r) (task u j)
  unfolding child_made
  last_two u j a b = go (eqb (read m (task t YOUNGEST)) NONE)
    where
      go : (s : Bool) → read (pick s kept3 (write kept3 (task (read m (task t YOUNGEST)) YOUNGER) c)) (task u j) ≡ read (passed_on viewed t r) (task u j)
      go true = unfold pick in task_other (passed_on viewed t r) t YOUNGEST u j c (omega arith) b (λ e f. omega (arith, f, a))
      go false = unfold pick in
          task_other kept3 (read m (task t YOUNGEST)) YOUNGER u j c (omega arith) b (λ e f. omega (arith, f, a))
          ∙ task_other (passed_on viewed t r) t YOUNGEST u j c (omega arith) b (λ e f. omega (arith, f, a))

  pub made_only : TasksOnly m (child_made m t r c)
  unfolding child_made
  made_only = go (eqb (read m (task t YOUNGEST)) NONE) refl
    where
      three : TasksOnly m kept3
      three =
          only_then (only_then (only_then (block_only m c 0 _ hc (omega arith)) (block_only linked1 c 16 _ hc views_fit))
          (passed_only viewed t r size_viewed ht))
          (word_only (passed_on viewed t r) t YOUNGEST c ht (omega arith))

      go : (s : Bool) → eqb (read m (task t YOUNGEST)) NONE ≡ s → TasksOnly m (pick s kept3 (write kept3 (task (read m (task t YOUNGEST)) YOUNGER) c))
      go true e = unfold pick in three
      go false e = unfold pick in
          only_then three (word_only kept3 (read m (task t YOUNGEST)) YOUNGER c (ho (eqb-false _ _ e)) (omega arith))

  -- a task that is not the child
  viewed_other : (u j : ℕ) → (u ≡ c → ⊥) → j < 48 → read viewed (task u j) ≡ read m (task u j)
  viewed_other u j n l =
      record_other linked1 c 16 _ hc views_fit u j l (λ e a b. n e) ∙ record_other m c 0 _ hc (omega arith) u j l (λ e a b. n e)

  pub made_other : (u j : ℕ) → (u ≡ c → ⊥) → (u ≡ t → ⊥) → 16 ≤ j → j < 48 → read (child_made m t r c) (task u j) ≡ read m (task u j)
  made_other u j n d a b =
      last_two u j a b ∙ passed_other viewed t r size_viewed ht u j b (λ e f g. d e) (λ e f g. d e) (λ e f g. d e) ∙ viewed_other u j n b

  -- the child
  pub made_child : (i : ℕ) → i < VIEW_WORDS → read (child_made m t r c) (task c (QUEUE_HEADS + i)) ≡ load (child_views m t r) i
  made_child i h =
      last_two c (16 + i) (omega arith) (omega (arith, h))
      ∙ passed_other viewed t r size_viewed ht c (16 + i) (omega (arith, h)) (λ e f g. apart e) (λ e f g. apart e) (λ e f g. apart e)
      ∙ record_same linked1 c 16 (child_views m t r) hc views_fit size_linked i (let e = views_length m t r in omega (arith, e, h))

  -- the spawner
  own : (j : ℕ) → j < 48 → read viewed (task t j) ≡ read m (task t j)
  own j l = viewed_other t j (λ e. apart (sym e)) l

  pub made_kept : (j : ℕ) → 16 ≤ j → j < 48 → (16 ≤ j → j < 20 → ⊥) → (24 ≤ j → j < 28 → ⊥) → (36 ≤ j → j < 40 → ⊥)
      → read (child_made m t r c) (task t j) ≡ read m (task t j)
  made_kept j a b d f g =
      last_two t j a b ∙ passed_other viewed t r size_viewed ht t j b (λ e. d) (λ e. f) (λ e. g) ∙ own j b

  module _ (q : ℕ) (hq : q < 4) where
    pub made_queue : read (child_made m t r c) (queue_head t q) ≡ kept_queue r (read m (queue_head t q)) q
    made_queue =
        last_two t (16 + q) (omega arith) (omega (arith, hq)) ∙ passed_queue_lem viewed t r size_viewed ht q hq
        ∙ ap (λ (w : ℕ). kept_queue r w q) (own (16 + q) (omega (arith, hq)))

    pub made_head : read (child_made m t r c) (head USER t q) ≡ kept_user r (read m (head USER t q)) q
    made_head =
        last_two t (24 + q) (omega arith) (omega (arith, hq)) ∙ passed_head viewed t r size_viewed ht q hq
        ∙ ap (λ (w : ℕ). kept_user r w q) (own (24 + q) (omega (arith, hq)))

    pub made_tail : read (child_made m t r c) (tail USER t q) ≡ kept_user r (read m (tail USER t q)) q
    made_tail =
        last_two t (36 + q) (omega arith) (omega (arith, hq)) ∙ passed_tail viewed t r size_viewed ht q hq
        ∙ ap (λ (w : ℕ). kept_user r w q) (own (36 + q) (omega (arith, hq)))
