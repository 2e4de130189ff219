-- THE FOUR QUEUES OVER ONE STORE: a call on one of them leaves the others laid out as they were.
use Rattle.std.specs.Prelude.{◌≡◌, refl, ℕ, ◌+◌, ◌<◌, ◌≤◌}
use Rattle.std.proofs.Common.{sym, subst, ⊎_elim, arith}
use mathlib.Core.List.{List, [], ◌∷◌, ◌++◌}
use Rattle.spec_words.specs.Words.{pick}
use Rattle.spec_lists.specs.Counting.{occurrences, equal?, occurs_append}
use Rattle.spec_tree.specs.Queues.{by_four}
use Rattle.spec_lists.specs.Maps.{All, put, put_same, put_other, all_in}
use Rattle.law_gaps.specs.Line.{Line, segments}
use Rattle.law_gaps.specs.Store.{Store, Memory, Laid, Segments, timeline}
use Rattle.law_gaps.proofs.Stores.{Kept}
use Rattle.law_gaps.proofs.Pool.{Pool, mine, laid_mine, pool_row, other_queue}
use Rattle.law_maps.specs.Update.{shared}

-- the four lines
abbrev pub four : (ℕ → Line) → List Line
four line = line 0 ∷ line 1 ∷ line 2 ∷ line 3 ∷ []

-- All four queues are laid out, and share the segments of st.
pub record Laids (own : ℕ → ℕ) (st : Store) (memory : ℕ → Memory) (holder : ℕ → ℕ) (line : ℕ → Line) : Type 0 where
  pub laid : (q : ℕ) → q < 4 → Laid (mine (memory q).store (line q)) (memory q) (holder q) (line q)
  pub shares : (q : ℕ) → q < 4 → memory q ≡ shared st (memory q)
  pub pool : Pool own st (four line)

module _ (own : ℕ → ℕ) (single : (x : ℕ) → own x ≤ 1) (st : Store) (line : ℕ → Line) (pool : Pool own st (four line)) where
  abbrev held : ℕ → ℕ → ℕ
  held x q = occurrences x (segments (line q))

  total : (x : ℕ) → held x 0 + held x 1 + held x 2 + held x 3 + occurrences x st.free ≤ own x
  total x =
      let a = pool.total x in
      let b = occurs_append x (segments (line 0)) (segments (line 1) ++ (segments (line 2) ++ (segments (line 3) ++ []))) in
      let c = occurs_append x (segments (line 1)) (segments (line 2) ++ (segments (line 3) ++ [])) in
      let d = occurs_append x (segments (line 2)) (segments (line 3) ++ []) in
      let e = occurs_append x (segments (line 3)) [] in
      omega (arith, a, b, c, d, e)

  -- a segment of one queue is neither another's nor free
  pub apart : (p q : ℕ) → p < 4 → q < 4 → (p ≡ q → ⊥) → (x : ℕ) → held x p + (held x q + occurrences x st.free) ≤ 1
  apart p q i j n x =
      by_four (λ p. (p ≡ q → ⊥) → held x p + (held x q + occurrences x st.free) ≤ 1)
      (λ n.
      by_four (λ q. (0 ≡ q → ⊥) → held x 0 + (held x q + occurrences x st.free) ≤ 1) (λ n. absurd (n refl)) (λ n. omega (arith, sum))
      (λ n. omega (arith, sum)) (λ n. omega (arith, sum)) q j n)
      (λ n.
      by_four (λ q. (1 ≡ q → ⊥) → held x 1 + (held x q + occurrences x st.free) ≤ 1) (λ n. omega (arith, sum)) (λ n. absurd (n refl))
      (λ n. omega (arith, sum)) (λ n. omega (arith, sum)) q j n)
      (λ n.
      by_four (λ q. (2 ≡ q → ⊥) → held x 2 + (held x q + occurrences x st.free) ≤ 1) (λ n. omega (arith, sum)) (λ n. omega (arith, sum))
      (λ n. absurd (n refl)) (λ n. omega (arith, sum)) q j n)
      (λ n.
      by_four (λ q. (3 ≡ q → ⊥) → held x 3 + (held x q + occurrences x st.free) ≤ 1) (λ n. omega (arith, sum)) (λ n. omega (arith, sum))
      (λ n. omega (arith, sum)) (λ n. absurd (n refl)) q j n)
      p i n
    where
      sum : held x 0 + held x 1 + held x 2 + held x 3 + occurrences x st.free ≤ 1
      sum = let a = total x in let b = single x in omega (arith, a, b)

  -- a segment that a queue has, or that is free, is one of those opened, and stands there once
  pub held_opened : (q : ℕ) → q < 4 → (x : ℕ) → held x q + occurrences x st.free ≤ own x
  held_opened q i x =
      by_four (λ q. held x q + occurrences x st.free ≤ own x) (omega (arith, sum)) (omega (arith, sum)) (omega (arith, sum)) (omega (arith, sum)) q i
    where
      sum : held x 0 + held x 1 + held x 2 + held x 3 + occurrences x st.free ≤ own x
      sum = total x

  pub mine_one : (q : ℕ) → q < 4 → (x : ℕ) → held x q + occurrences x st.free ≤ 1
  mine_one q i x = let a = held_opened q i x in let b = single x in omega (arith, a, b)

  pub others_apart : (p q : ℕ) → p < 4 → q < 4 → (p ≡ q → ⊥) → All (λ x. held x q + occurrences x st.free ≡ 0) (segments (line p))
  others_apart p q i j n = all_in _ (segments (line p)) (λ x l. let a = apart p q i j n x in omega (arith, a, l))

  -- the pool where the line of queue q, and the segments, have become others
  pub pool_with : (q : ℕ) → q < 4 → (st' : Store) (l' : Line) → Kept (mine st (line q)) st st'
      → Segments (mine st (line q)) st'.next st'.contents st'.free l' → Pool own st' (four (put line q l'))
  unfolding put pick
  pool_with q i st' l' k g =
      by_four
      (λ q. Kept (mine st (line q)) st st' → Segments (mine st (line q)) st'.next st'.contents st'.free l' → Pool own st' (four (put line q l')))
      (λ k g. pool_row own single st [] (line 0) (line 1 ∷ line 2 ∷ line 3 ∷ []) pool st' l' k g)
      (λ k g. pool_row own single st (line 0 ∷ []) (line 1) (line 2 ∷ line 3 ∷ []) pool st' l' k g)
      (λ k g. pool_row own single st (line 0 ∷ line 1 ∷ []) (line 2) (line 3 ∷ []) pool st' l' k g)
      (λ k g. pool_row own single st (line 0 ∷ line 1 ∷ line 2 ∷ []) (line 3) [] pool st' l' k g)
      q i k g

-- A CALL ON QUEUE q took its memory to M, its line to l, its queue view to h.
module _ (own : ℕ → ℕ) (single : (x : ℕ) → own x ≤ 1) (st : Store) (memory : ℕ → Memory) (holder : ℕ → ℕ) (line : ℕ → Line)
    (all : Laids own st memory holder line)
    (q : ℕ) (small : q < 4) (M : Memory) (h : ℕ) (l : Line) (kept : Kept (mine (memory q).store (line q)) (memory q).store M.store)
    (row : Laid (mine (memory q).store (line q)) M h l) where
  abbrev Then : ℕ → Memory
  Then = put (λ p. shared M.store (memory p)) q M

  -- in terms of the shared segments
  kept_shared : Kept (mine st (line q)) st M.store
  kept_shared = subst (λ (m : Memory). Kept (mine m.store (line q)) m.store M.store) (all.shares q small) kept

  row_shared : Laid (mine st (line q)) M h l
  row_shared = subst (λ (m : Memory). Laid (mine m.store (line q)) M h l) (all.shares q small) row

  other : (p : ℕ) → p < 4 → (p ≡ q → ⊥) → Laid (mine (shared M.store (memory p)).store (line p)) (shared M.store (memory p)) (holder p) (line p)
  other p i n =
      let m = memory p in
      (other_queue (mine st (line q)) (mine m.store (line p)) (mine M.store (line p)) m.children m.user m.right m.store.heads st M.store
      (holder p) (line p)
      kept_shared (others_apart own single st line all.pool p q i small n) (λ x. refl)
      (subst (λ (w : Memory). Laid (mine m.store (line p)) w (holder p) (line p)) (all.shares p i) (all.laid p i))).0

  pub laids_row : Laids own M.store Then (put holder q h) (put line q l)
  laids_row =
      record {
        laid = λ p i.
            ⊎_elim
            (λ e. subst (λ (x : ℕ). Laid (mine (Then x).store (put line q l x)) (Then x) (put holder q h x) (put line q l x)) (sym e)
            (rw (put_same (λ p. shared M.store (memory p)) q M, put_same holder q h, put_same line q l) (laid_mine row_shared)))
            (λ n. rw (put_other (λ p. shared M.store (memory p)) q M p n, put_other holder q h p n, put_other line q l p n) (other p i n))
            (equal? p q);
        shares = λ p i.
            ⊎_elim
            (λ e. subst (λ (x : ℕ). Then x ≡ shared M.store (Then x)) (sym e) (rw (put_same (λ p. shared M.store (memory p)) q M) refl))
            (λ n. rw (put_other (λ p. shared M.store (memory p)) q M p n) refl)
            (equal? p q);
        pool = pool_with own single st line all.pool q small M.store l kept_shared row_shared.held.chains;
      }

  -- the timelines of the others are as they were
  pub other_timeline : (p : ℕ) → p < 4 → (p ≡ q → ⊥) → timeline M.store.contents (line p) ≡ timeline st.contents (line p)
  other_timeline p i n =
      let m = memory p in
      (other_queue (mine st (line q)) (mine m.store (line p)) (mine M.store (line p)) m.children m.user m.right m.store.heads st M.store
      (holder p) (line p)
      kept_shared (others_apart own single st line all.pool p q i small n) (λ x. refl)
      (subst (λ (w : Memory). Laid (mine m.store (line p)) w (holder p) (line p)) (all.shares p i) (all.laid p i))).1
