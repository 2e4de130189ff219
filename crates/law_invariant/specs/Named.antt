-- WHAT NAMES THE FIRST SEGMENT of a queue: the head of its queue view, and nothing else.
use Rattle.std.specs.Prelude.{◌≡◌, refl, Bool, true, false, List, [], ◌∷◌, ℕ, zero, suc, ◌+◌, ◌<◌, ltb, drop}
use Rattle.std.proofs.Common.{ap, sym, ◌∙◌, ⊎_elim, arith, get_or-drop, lt-ltb, ltb-true, eq-eqb, ne_eqb}
use Rattle.std.proofs.lemmas.Bool.{false≢true}
use Rattle.spec_words.specs.Words.{load, pick, halt, pass, both, true_both, both_true}
use Rattle.spec_lists.specs.Counting.{occurrences, occurs_nil, occurs_here, occurs_past, equal?, occurs_later}
use Rattle.spec_layout.specs.Layout.{QUEUE_HEADS, task, queue_head, read, record_of}
use Rattle.spec_layout.proofs.Frame.{record_word}
use Rattle.spec_tree.specs.Tour.{MARKS, tour}
use Rattle.spec_outcomes.specs.Segments.{index_of, head_index}
use Rattle.law_gaps.proofs.Search.{first_of}
use Rattle.law_links.specs.Places.{seek_first}
use Rattle.law_maps.specs.Links.{NamedBy}

-- in the words m, with the tour T: of all heads of views of the tasks of the tour only the head of queue view q of h is g
pub record OnlyNamed (m : List ℕ) (T : List ℕ) (g h q : ℕ) : Type 0 where
  pub task_range : h < 128
  pub queue_range : q < 4
  pub there : 0 < occurrences h T
  pub names : read m (queue_head h q) ≡ g
  pub only : (x i : ℕ) → x < 128 → 0 < occurrences x T → i < 16 → read m (task x (QUEUE_HEADS + i)) ≡ g → (x ≡ h) × (i ≡ q)

-- where a number stands among the first n words
index_at : (g n : ℕ) (r : List ℕ) (k : ℕ) → k < n → load r k ≡ g → ((j : ℕ) → j < k → load r j ≡ g → ⊥) → index_of g n r ≡ k
unfolding index_of load
index_at g zero r k l e f = let z : ⊥ = omega (arith, l) in absurd z
index_at g (suc n) r zero l e f = halt _ _ (eq-eqb _ g e)
index_at g (suc n) r (suc k) l e f =
    pass _ (ne_eqb _ g (f 0 (omega arith)))
    (let h = index_at g n (drop 1 r) k (omega (arith, l)) (get_or-drop 1 r k 0 ∙ ap (load r) (let z : 1 + k ≡ suc k = omega arith in z) ∙ e)
    (λ j i d. f (suc j) (omega (arith, i)) (ap (load r) (let z : suc j ≡ 1 + j = omega arith in z) ∙ sym (get_or-drop 1 r j 0) ∙ d)) in
    omega (arith, h))

index_none : (g n : ℕ) (r : List ℕ) → ((j : ℕ) → j < n → load r j ≡ g → ⊥) → index_of g n r ≡ n
unfolding index_of load
index_none g zero r f = refl
index_none g (suc n) r f =
    pass _ (ne_eqb _ g (f 0 (omega arith)))
    (let h = index_none g n (drop 1 r)
    (λ j i d. f (suc j) (omega (arith, i)) (ap (load r) (let z : suc j ≡ 1 + j = omega arith in z) ∙ sym (get_or-drop 1 r j 0) ∙ d)) in
    omega (arith, h))

-- the first mark that a test holds of, where it holds of one only
first_only : (f : ℕ → Bool) (l : List ℕ) (h : ℕ) → 0 < occurrences h l → f h ≡ true → ((x : ℕ) → 0 < occurrences x l → f x ≡ true → x ≡ h) → first_of f l ≡ h
unfolding first_of
first_only f [] h p e only = let a = occurs_nil h in let z : ⊥ = omega (arith, a, p) in absurd z
first_only f (y ∷ l) h p e only = go (f y) refl (first_only f l h)
  where
    go : (b : Bool) → f y ≡ b → (0 < occurrences h l → f h ≡ true → ((x : ℕ) → 0 < occurrences x l → f x ≡ true → x ≡ h) → first_of f l ≡ h)
        → pick (f y) y (first_of f l) ≡ h
    go true d rest = halt _ _ d ∙ only y (let g = occurs_here y y l refl in omega (arith, g)) d
    go false d rest =
        pass _ d
        (rest (let g = occurs_past y h l (λ q. false≢true (sym d ∙ ap f q ∙ e)) in omega (arith, g, p)) e (λ x i. only x (occurs_later y x l i)))

pub named_by : (m : List ℕ) (T : List ℕ) (g h q : ℕ) → tour MARKS (record_of m) 0 ≡ T → OnlyNamed m T g h q → NamedBy m g h q
unfolding head_index load
named_by m T g h q is w =
    record {
      task_range = w.task_range;
      queue_range = w.queue_range;
      task =
          seek_first MARKS f (record_of m) 0
          ∙ ap (first_of f) is
          ∙ first_only f T h w.there
          (true_both (lt-ltb h 128 w.task_range)
          (lt-ltb (index_of g 16 (drop 16 (record_of m h))) 16 (let e = index in let l = w.queue_range in omega (arith, e, l))))
          only;
      index = index;
    }
  where
    f : ℕ → Bool
    f x = both (ltb x 128) (ltb (index_of g 16 (drop 16 (record_of m x))) 16)

    at : (x j : ℕ) → load (drop 16 (record_of m x)) j ≡ read m (task x (QUEUE_HEADS + j))
    at x j = get_or-drop 16 (record_of m x) j 0 ∙ record_word m x (QUEUE_HEADS + j)

    index : index_of g 16 (drop 16 (record_of m h)) ≡ q
    index =
        let l = w.queue_range in
        index_at g 16 (drop 16 (record_of m h)) q (omega (arith, l)) (at h q ∙ w.names)
        (λ j i e. let d = (w.only h j w.task_range w.there (omega (arith, i, l)) (sym (at h j) ∙ e)).1 in omega (arith, d, i))

    only : (x : ℕ) → 0 < occurrences x T → f x ≡ true → x ≡ h
    only x p e =
        let b = both_true _ _ e in
        let l = ltb-true x 128 b.0 in
        ⊎_elim
        (λ d. d)
        (λ d.
        let k = index_none g 16 (drop 16 (record_of m x)) (λ j i c. d (w.only x j l p i (sym (at x j) ∙ c)).0) in
        let z = ltb-true (index_of g 16 (drop 16 (record_of m x))) 16 b.1 in
        let y : ⊥ = omega (arith, k, z) in
        absurd y)
        (equal? x h)
