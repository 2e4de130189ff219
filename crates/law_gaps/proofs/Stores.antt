-- THE STORE UNDER A JOIN OF TWO GAPS, with the queue head; what a call on one queue does not touch.
use Rattle.std.specs.Prelude.{◌≡◌, refl, List, [], ◌∷◌, ◌++◌, ℕ, ◌≤◌}
use Rattle.std.proofs.Common.{ap, sym, ◌∙◌, subst, arith}
use Rattle.std.proofs.Math.Option.{some}
use Rattle.spec_lists.specs.Counting.{occurs_append}
use Rattle.spec_lists.specs.Maps.{All, put_other, last_of, last_append, all_behind, last_in}
use Rattle.law_gaps.specs.Line.{End, local, Extent, extent, entered, Line, segments, first_chain, settled, awaiting, Views}
use Rattle.law_gaps.specs.Store.{Store, Chain, Segments, head_of, Held, values_in, timeline}
use Rattle.law_gaps.specs.Lines.{count_segments, NoBase, first_behind}
use Rattle.law_gaps.specs.Moves.{Place, view_at, taken, linked_holding, linked, joined}
use Rattle.law_gaps.specs.Places.{Target, grow}
use Rattle.law_gaps.proofs.Chains.{Gap, NoGap, Sole, count_gap}
use Rattle.law_gaps.proofs.Joins.{is_sole, free_next, join_link, join_bare, join_free}
use Rattle.law_gaps.proofs.SegmentRows.{rearrange, fresh}
use Rattle.law_gaps.proofs.Timelines.{timeline_link, timeline_bare, timeline_sole}
use Rattle.law_gaps.proofs.Find.{awaited, Found, nothing, tail, find}
use Rattle.law_gaps.proofs.Heads.{Only, only_set}

-- WHAT A CALL ON A QUEUE LEAVES ALONE: all segments that are not the queue's to use.
abbrev pub Kept : (ℕ → ℕ) → Store → Store → Type 0
Kept own st st' = (x : ℕ) → own x ≡ 0 → (st'.next x ≡ st.next x) × (st'.contents x ≡ st.contents x)

pub own_apart : (own : ℕ → ℕ) (x z : ℕ) → own x ≡ 0 → 1 ≤ own z → x ≡ z → ⊥
own_apart own x z e h f = let g : own z ≡ 0 = ap own (sym f) ∙ e in omega (arith, g, h)

-- THE FIRST CHAIN when the latest gap grows
first_link : {a : Line} {p : ℕ} {r : List ℕ} (c : List ℕ) → Gap a p r → head_of (first_chain (grow a c (p ∷ (r ++ c)))) ≡ head_of (first_chain a)
first_link c Gap.at_base = refl
first_link c Gap.at_entered = refl
first_link c (Gap.on_exited g) = first_link c g
first_link c (Gap.on_pass g) = first_link c g

first_bare : {a : Line} (c d : List ℕ) → NoGap a → first_chain (grow a c d) ≡ first_chain a
first_bare c d NoGap.at_entered = refl
first_bare c d (NoGap.on_exited g) = first_bare c d g
first_bare c d (NoGap.on_pass g) = first_bare c d g

first_sole : {a : Line} {p : ℕ} (c : List ℕ) → Sole a p → first_chain (grow a c c) ≡ c
first_sole c Sole.at_base = refl
first_sole c (Sole.on_exited g) = first_sole c g
first_sole c (Sole.on_pass g) = first_sole c g

-- THE RESULT OF A JOIN: the chain s ∷ c came behind the chain of the latest gap of a. Where that was the first gap, its chain
-- is q ∷ d now.
pub record Joined (own : ℕ → ℕ) (st st' : Store) (holder : ℕ) (b : Line) (s : ℕ) (c : List ℕ) (a : Line) : Type 0 where
  pub q : ℕ
  pub d : List ℕ
  pub last : last_of q d ≡ last_of s c
  pub held : Held own st' holder (b ++ grow a (s ∷ c) (q ∷ d))
  pub same : st'.contents ≡ st.contents
  pub points : timeline st.contents (grow a (s ∷ c) (q ∷ d)) ≡ timeline st.contents a ++ values_in st.contents (s ∷ c)
  pub kept : Kept own st st'

module _ (own : ℕ → ℕ) (single : (x : ℕ) → own x ≤ 1) (st : Store) (holder : ℕ) (b : Line) (t s : ℕ) (c : List ℕ) (a : Line) (nb : NoBase b)
    (h : Held own st holder (b ++ (entered t (s ∷ c) ∷ a))) where
  was : Only st.heads holder (head_of (first_chain a))
  was = subst (λ z. Only st.heads holder (head_of z)) (first_behind b (entered t (s ∷ c) ∷ a) nb) h.head

  -- behind the chain p ∷ r
  join : (p : ℕ) (r : List ℕ) → Gap a p r → Joined own st (linked holder (last_of p r) s st) holder b s c a
  join p r g = go (st.contents (last_of p r)) refl
    where
      owned : 1 ≤ own (last_of p r)
      owned =
          let z = last_of p r in
          omega (arith, h.chains.once z, count_segments z b (entered t (s ∷ c) ∷ a), occurs_append z (s ∷ c) (segments a), count_gap z g, last_in p r)

      go : (xs : List ℕ) → st.contents (last_of p r) ≡ xs → Joined own st (linked_holding xs holder (last_of p r) s st) holder b s c a
      go [] e =
          let chains = (all_behind (Chain st.next st.contents) b (entered t (s ∷ c) ∷ a) h.chains.good).1 in
          let only = is_sole st.next st.contents g chains e in
          let first : last_of p r ≡ p = ap (last_of p) only.1 in
          record {
            q = s;
            d = c;
            last = refl;
            held = record {
              chains = free_next own single st.next st.contents st.free (last_of p r) (some 0) (b ++ grow a (s ∷ c) (s ∷ c))
                  (subst (λ z. Segments own st.next st.contents (z ∷ st.free) (b ++ grow a (s ∷ c) (s ∷ c))) (sym first)
                  (join_free own single st.next st.contents st.free b t s c a h.chains only.0));
              head = rw (first_behind b (grow a (s ∷ c) (s ∷ c)) nb)
                  (rw (first_sole (s ∷ c) only.0) (only_set st.heads holder (head_of (first_chain a)) (some s) was));
            };
            same = refl;
            points = timeline_sole st.contents (s ∷ c) only.0 (ap st.contents (sym first) ∙ e);
            kept = λ x k. (put_other st.next (last_of p r) (some 0) x (own_apart own x (last_of p r) k owned), refl);
          }
      go (w ∷ xs) e = record {
        q = p;
        d = r ++ (s ∷ c);
        last = last_append p r s c;
        held = record {
          chains = join_link own single st.next st.contents st.free b t s c a h.chains g (w, xs, e);
          head = rw (first_behind b (grow a (s ∷ c) (p ∷ (r ++ (s ∷ c)))) nb) (rw (first_link (s ∷ c) g) was);
        };
        same = refl;
        points = timeline_link st.contents (s ∷ c) g;
        kept = λ x k. (put_other st.next (last_of p r) (some s) x (own_apart own x (last_of p r) k owned), refl);
      }

  -- where the gap has no chain
  join_none : NoGap a → Joined own st st holder b s c a
  join_none g = record {
    q = s;
    d = c;
    last = refl;
    held = record {
      chains = join_bare own single st.next st.contents st.free b t s c a h.chains (s ∷ c) g;
      head = rw (first_behind b (grow a (s ∷ c) (s ∷ c)) nb) (rw (first_bare (s ∷ c) (s ∷ c) g) was);
    };
    same = refl;
    points = timeline_bare st.contents (s ∷ c) (s ∷ c) g;
    kept = λ x k. (refl, refl);
  }

  -- The chain comes behind the chain that the walk back finds; behind one that awaits its tail.
  pub joined_at : (children user right : ℕ → Extent) (k : Place) (y : End) → Target children a k → Views children user right a settled
      → Joined own st (joined holder (view_at children right k) (extent (local s) y) st) holder b s c a
  joined_at children user right k y o r = go (find k o r)
    where
      go : Found children right a k → Joined own st (joined holder (view_at children right k) (extent (local s) y) st) holder b s c a
      go (nothing e g) = rw e (join_none g)
      go (tail x p d e g) = rw e (join p d g)

  pub joined_awaiting : (children user right : ℕ → Extent) (z : ℕ) → Views children user right a (awaiting z)
      → Joined own st (linked holder z s st) holder b s c a
  joined_awaiting children user right z r =
      let g = awaited r in
      subst (λ z. Joined own st (linked holder z s st) holder b s c a) g.3 (join g.0 g.1 g.2)

-- a free segment g is taken, as the chain of a gap of its own
pub held_taken : (own : ℕ → ℕ) (single : (x : ℕ) → own x ≤ 1) (st : Store) (holder : ℕ) (b : Line) (t g : ℕ) (rest : List ℕ) (v : ℕ) (a : Line)
    → NoBase b → st.free ≡ g ∷ rest → Held own st holder (b ++ a) → Held own (taken g rest v st) holder (b ++ (entered t (g ∷ []) ∷ a))
held_taken own single st holder b t g rest v a nb e h = record {
  chains = fresh own single st.next st.contents rest b t g v a (subst (λ z. Segments own st.next st.contents z (b ++ a)) e h.chains);
  head = rw (first_behind b (entered t (g ∷ []) ∷ a) nb) (subst (λ z. Only st.heads holder (head_of z)) (first_behind b a nb) h.head);
}

-- the marks k of a line become k', with the same chains
pub held_rearranged : (own : ℕ → ℕ) (st : Store) (holder : ℕ) (b k k' a : Line) → NoBase b → segments k' ≡ segments k
    → first_chain (k' ++ a) ≡ first_chain (k ++ a) → (All (Chain st.next st.contents) k → All (Chain st.next st.contents) k')
    → Held own st holder (b ++ (k ++ a)) → Held own st holder (b ++ (k' ++ a))
held_rearranged own st holder b k k' a nb e f g h = record {
  chains = rearrange own st.next st.contents st.free b k k' a e g h.chains;
  head = subst (λ z. Only st.heads holder (head_of z)) (first_behind b (k ++ a) nb ∙ (sym f ∙ sym (first_behind b (k' ++ a) nb))) h.head;
}
