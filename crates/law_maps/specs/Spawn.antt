-- spawn: what the child has of the views and the queue heads of its spawner, and what the spawner keeps.
use Rattle.std.specs.Prelude.{◌≡◌, Bool, true, false, List, ℕ, ◌+◌, ◌*◌, ◌<◌, ltb}
use Rattle.std.proofs.Math.Path.{refl, ap, ap₂, fun_ext}
use Rattle.std.proofs.Common.{sym, ◌∙◌, ⊎_elim, arith, lt-ltb, le-ltb}
use Rattle.std.proofs.Math.Option.{Option, none}
use Rattle.spec_words.specs.Words.{load, pick, pass, halt}
use Rattle.spec_lists.specs.Counting.{equal?, below?}
use Rattle.spec_layout.specs.Layout.{NONE, YOUNGEST, HEADS, TAILS, VIEW_WORDS, CHILDREN, USER, RIGHT, task, queue_head, head, tail, read}
use Rattle.spec_tree.specs.Rights.{pops, uses}
use Rattle.spec_rules.specs.Views.{view}
use Rattle.spec_outcomes.specs.Views.{view_of}
use Rattle.spec_outcomes.specs.Spawn.{passed_user, passed_queue, kept_user, kept_queue, child_views, child_made}
use Rattle.spec_lists.specs.Maps.{put, put_same, put_other}
use Rattle.law_gaps.specs.Line.{Extent, vacant}
use Rattle.law_maps.specs.Meaning.{Meaning, optional, extent_of, heads_in, view_in, meaning_of, Sized}
use Rattle.law_maps.specs.Maps.{put_path, three_path}
use Rattle.law_maps.specs.Reads.{head_at, view_at_lem, head_same_at, view_same_at}
use Rattle.law_maps.specs.Kept.{Means}
use Rattle.law_maps.specs.TasksOnly.{tasks_mean}
use Rattle.law_maps.specs.Free.{optional_none}
use Rattle.law_maps.specs.Extents.{no_view}
use Rattle.law_maps.specs.SpawnWords.{child_queue, child_heads, child_tails, made_only, made_other, made_child, made_kept, made_queue, made_head}
use Rattle.law_maps.specs.SpawnWords.{made_tail}

-- the queue heads of one queue, where b says that the child may pop from it
abbrev pub spawned_heads : Bool → ℕ → ℕ → (ℕ → Option ℕ) → ℕ → Option ℕ
spawned_heads b t c hs = put (put hs c (pick b (hs t) none)) t (pick b none (hs t))

-- the user views of one queue, where b says that the child has a right to it
abbrev pub spawned_users : Bool → ℕ → ℕ → (ℕ → Extent) → ℕ → Extent
spawned_users b t c vs = put (put vs c (pick b (vs t) vacant)) t (pick b vacant (vs t))

-- all views of one queue
abbrev pub spawned_views : Bool → ℕ → ℕ → (ℕ → ℕ → Extent) → ℕ → ℕ → Extent
spawned_views b t c vs =
    put (put (put vs CHILDREN (put (vs CHILDREN) c vacant)) USER (spawned_users b t c (vs USER))) RIGHT (put (vs RIGHT) c vacant)

-- the meaning when t has spawned c with rights r
abbrev pub spawned_in : Meaning → ℕ → ℕ → ℕ → Meaning
spawned_in M t r c = record {
  next = M.next;
  contents = M.contents;
  free = M.free;
  heads = λ q. pick (ltb q 4) (spawned_heads (pops r q) t c (M.heads q)) (M.heads q);
  views = λ q. pick (ltb q 4) (spawned_views (uses r q) t c (M.views q)) (M.views q);
}

-- ONE WORD that is passed on or kept
optional_passed : (b : Bool) (w : ℕ) → optional (pick b w NONE) ≡ pick b (optional w) none
optional_passed true w = unfold pick in refl
optional_passed false w = unfold pick in optional_none

optional_kept : (b : Bool) (w : ℕ) → optional (pick b NONE w) ≡ pick b none (optional w)
optional_kept true w = unfold pick in optional_none
optional_kept false w = unfold pick in refl

-- a view
extent_passed : (b : Bool) (h e : ℕ) → extent_of (view (pick b h NONE) (pick b e NONE)) ≡ pick b (extent_of (view h e)) vacant
extent_passed true h e = unfold pick in refl
extent_passed false h e = unfold pick in no_view

extent_kept : (b : Bool) (h e : ℕ) → extent_of (view (pick b NONE h) (pick b NONE e)) ≡ pick b vacant (extent_of (view h e))
extent_kept true h e = unfold pick in no_view
extent_kept false h e = unfold pick in refl

module _ (m : List ℕ) (t r c : ℕ) (z : Sized m) (ht : t < 128) (hc : c < 128) (apart : c ≡ t → ⊥)
    (ho : (read m (task t YOUNGEST) ≡ NONE → ⊥) → read m (task t YOUNGEST) < 128) where
  abbrev n : List ℕ
  n = child_made m t r c

  module _ (q : ℕ) (hq : q < 4) where
    -- THE QUEUE HEADS
    child_head : heads_in n q c ≡ pick (pops r q) (heads_in m q t) none
    unfolding passed_queue
    child_head =
        head_at n q c hq hc
        ∙ ap optional (made_child m t r c z.words ht hc apart ho q (omega (arith, hq)) ∙ child_queue m t r q hq)
        ∙ optional_passed (pops r q) (read m (queue_head t q))
        ∙ ap (λ (x : Option ℕ). pick (pops r q) x none) (sym (head_at m q t hq ht))

    own_head : heads_in n q t ≡ pick (pops r q) none (heads_in m q t)
    unfolding kept_queue
    own_head =
        head_at n q t hq ht
        ∙ ap optional (made_queue m t r c z.words ht hc apart ho q hq)
        ∙ optional_kept (pops r q) (read m (queue_head t q))
        ∙ ap (pick (pops r q) none) (sym (head_at m q t hq ht))

    heads_made : heads_in n q ≡ spawned_heads (pops r q) t c (heads_in m q)
    heads_made =
        put_path (put (heads_in m q) c (pick (pops r q) (heads_in m q t) none)) (heads_in n q) t _ own_head (λ u d. ⊎_elim
        (λ e. ap (heads_in n q) e ∙ child_head ∙ sym (put_same (heads_in m q) c _) ∙ ap (put (heads_in m q) c _) (sym e))
        (λ f. head_same_at m n q u (λ a b. made_other m t r c z.words ht hc apart ho u (16 + q) f d (omega arith) (omega (arith, hq)))
        ∙ sym (put_other (heads_in m q) c _ u f))
        (equal? u c))

    -- THE VIEWS of the child
    child_word : (i j : ℕ) → i < VIEW_WORDS → j ≡ 16 + i → read n (task c j) ≡ load (child_views m t r) i
    child_word i j h e = ap (λ (x : ℕ). read n (task c x)) e ∙ made_child m t r c z.words ht hc apart ho i h

    child_none : (k i j : ℕ) → k < 3 → i < VIEW_WORDS → j < 28 → 20 + k * 4 + q ≡ 16 + i → 32 + k * 4 + q ≡ 16 + j
        → load (child_views m t r) i ≡ NONE → load (child_views m t r) j ≡ NONE → view_in n q k c ≡ vacant
    unfolding view_of
    child_none k i j hk hi hj ei ej a b =
        view_at_lem n q k c hq hk hc
        ∙ ap₂ (λ (x y : ℕ). extent_of (view x y)) (child_word i (HEADS + k * 4 + q) hi ei ∙ a) (child_word j (TAILS + k * 4 + q) hj ej ∙ b)
        ∙ no_view

    child_user : view_in n q USER c ≡ pick (uses r q) (view_in m q USER t) vacant
    unfolding view_of passed_user
    child_user =
        view_at_lem n q USER c hq (omega arith) hc
        ∙ ap₂ (λ (x y : ℕ). extent_of (view x y))
        (child_word (8 + q) (24 + q) (omega (arith, hq)) (omega arith) ∙ (child_heads m t r q hq).1)
        (child_word (20 + q) (36 + q) (omega (arith, hq)) (omega arith) ∙ (child_tails m t r q hq).1)
        ∙ extent_passed (uses r q) (read m (head USER t q)) (read m (tail USER t q))
        ∙ ap (λ (x : Extent). pick (uses r q) x vacant) (sym (view_at_lem m q USER t hq (omega arith) ht))

    -- those of the spawner
    own_user : view_in n q USER t ≡ pick (uses r q) vacant (view_in m q USER t)
    unfolding view_of kept_user
    own_user =
        view_at_lem n q USER t hq (omega arith) ht
        ∙ ap₂ (λ (x y : ℕ). extent_of (view x y)) (made_head m t r c z.words ht hc apart ho q hq) (made_tail m t r c z.words ht hc apart ho q hq)
        ∙ extent_kept (uses r q) (read m (head USER t q)) (read m (tail USER t q))
        ∙ ap (pick (uses r q) vacant) (sym (view_at_lem m q USER t hq (omega arith) ht))

    -- and all others
    other_view : (k u : ℕ) → (u ≡ c → ⊥) → (u ≡ t → ⊥) → view_in n q k u ≡ view_in m q k u
    other_view k u f d =
        view_same_at m n q k u (λ a b e. (
          made_other m t r c z.words ht hc apart ho u (20 + k * 4 + q) f d (omega arith) (omega (arith, a, b)),
          made_other m t r c z.words ht hc apart ho u (32 + k * 4 + q) f d (omega arith) (omega (arith, a, b)),
        ))

    own_view : (k : ℕ) → k < 3 → (k ≡ USER → ⊥) → view_in n q k t ≡ view_in m q k t
    own_view k hk d =
        view_same_at m n q k t (λ a b e. (
          made_kept m t r c z.words ht hc apart ho (20 + k * 4 + q) (omega arith) (omega (arith, a, b))
              (λ x y. omega (arith, y)) (λ x y. d (omega (arith, x, y, hq))) (λ x y. omega (arith, x, hk, hq)),
          made_kept m t r c z.words ht hc apart ho (32 + k * 4 + q) (omega arith) (omega (arith, a, b))
              (λ x y. omega (arith, y)) (λ x y. omega (arith, y)) (λ x y. d (omega (arith, x, y, hq))),
        ))

    -- a kind of views that is not passed on
    kind_made : (k : ℕ) → k < 3 → (k ≡ USER → ⊥) → view_in n q k c ≡ vacant → view_in n q k ≡ put (view_in m q k) c vacant
    kind_made k hk d e =
        put_path (view_in m q k) (view_in n q k) c vacant e (λ u f. ⊎_elim
        (λ s. ap (view_in n q k) s ∙ own_view k hk d ∙ ap (view_in m q k) (sym s))
        (λ g. other_view k u f g)
        (equal? u t))

    users_made : view_in n q USER ≡ spawned_users (uses r q) t c (view_in m q USER)
    users_made =
        put_path (put (view_in m q USER) c (pick (uses r q) (view_in m q USER t) vacant)) (view_in n q USER) t _ own_user (λ u d. ⊎_elim
        (λ e. ap (view_in n q USER) e ∙ child_user ∙ sym (put_same (view_in m q USER) c _) ∙ ap (put (view_in m q USER) c _) (sym e))
        (λ f. other_view USER u f d ∙ sym (put_other (view_in m q USER) c _ u f))
        (equal? u c))

    views_made : view_in n q ≡ spawned_views (uses r q) t c (view_in m q)
    views_made =
        three_path (view_in m q) (view_in n q) CHILDREN USER RIGHT _ _ _ (λ e. omega (arith, e)) (λ e. omega (arith, e)) (λ e. omega (arith, e))
        (kind_made CHILDREN (omega arith) (λ e. omega (arith, e))
        (child_none CHILDREN (4 + q) (16 + q) (omega arith) (omega (arith, hq)) (omega (arith, hq)) (omega arith) (omega arith)
        (child_heads m t r q hq).0 (child_tails m t r q hq).0))
        users_made
        (kind_made RIGHT (omega arith) (λ e. omega (arith, e))
        (child_none RIGHT (12 + q) (24 + q) (omega arith) (omega (arith, hq)) (omega (arith, hq)) (omega arith) (omega arith)
        (child_heads m t r q hq).2 (child_tails m t r q hq).2))
        (λ k a b d. fun_ext λ u. view_same_at m n q k u (λ e f g. absurd (let w : ⊥ = omega (arith, f, a, b, d) in w)))

  -- THE CHILD IS MADE
  pub child_made_lem : Means n (spawned_in (meaning_of m) t r c)
  child_made_lem =
      tasks_mean (made_only m t r c z.words ht hc apart ho) z refl refl refl
      (fun_ext λ q. ⊎_elim
      (λ h. heads_made q h ∙ sym (halt _ _ (lt-ltb q 4 h)))
      (λ h. (fun_ext λ u. head_same_at m n q u (λ a b. absurd (let w : ⊥ = omega (arith, a, h) in w))) ∙ sym (pass _ (le-ltb q 4 h) refl))
      (below? q 4))
      (fun_ext λ q. ⊎_elim
      (λ h. views_made q h ∙ sym (halt _ _ (lt-ltb q 4 h)))
      (λ h. (fun_ext λ k. fun_ext λ u. view_same_at m n q k u (λ a b d. absurd (let w : ⊥ = omega (arith, a, h) in w))) ∙ sym (pass _ (le-ltb q 4 h) refl))
      (below? q 4))
