-- THE MEMORY TEST does not look at the top's status but for the rule of the top: contents that differ in that word alone.
use Rattle.std.specs.Prelude.{◌≡◌, Bool, true, not, length, drop}
use Rattle.std.proofs.Math.Path.{refl, ap, ap₂, sym, fun_ext}
use Rattle.std.proofs.Common.{◌∙◌, subst, arith}
use mathlib.Core.List.{List, [], ◌∷◌, ◌++◌}
use Rattle.std.proofs.Math.Logic.{⊎_elim}
use Prim.Native.Nat.{ℕ, zero, suc, ◌+◌, ◌-◌, ◌*◌, ◌<◌, ◌≤◌}
use Rattle.std.proofs.Math.Dec.{leb, ltb, eqb}
use Rattle.std.proofs.Math.Seq.{drop-drop}
use Rattle.std.proofs.lemmas.Bool.{lt-leb}
use Rattle.spec_words.specs.Words.{pick, both, either, both_off}
use Rattle.spec_lists.specs.Counting.{equal?}
use Rattle.spec_lists.specs.Tests.{each, upto, each_word, upto_says, says_upto}
use Rattle.spec_lists.specs.Distinct.{distinct}
use Rattle.spec_layout.specs.Layout.{NONE, STATUS, RIGHTS, PARENT, OLDER, YOUNGER, YOUNGEST, FREE, UNFINISHED, VIEW_WORDS, CHILDREN, USER, RIGHT}
use Rattle.spec_tree.specs.Rights.{uses, subset, each_queue}
use Rattle.spec_tree.specs.Tour.{END, tour, entered, after, entering}
use Rattle.spec_rules.specs.Contents.{Contents, word, part, locals, heads, tails, owners}
use Rattle.spec_rules.specs.Test.{within, in_range, top_test, idle_test, kin, link_test, tree_test, view_word, views_test, passed_at, passed, order_at, order_of, order_test}
use Rattle.spec_rules.specs.Test.{owners_test, segment_test, chain, chains, held_test}
use Rattle.law_rules_same.specs.Passed.{Seen, Passed}

pub record ButTop (c d : Contents) : Type 0 where
  pub length : d.length ≡ c.length
  pub number : d.number ≡ c.number
  pub few : c.number ≤ 256
  pub free : d.free ≡ c.free
  pub idle : d.idle ≡ c.idle
  pub firsts : (s : ℕ) → s < 256 → part d s 0 ≡ part c s 0
  pub counts : (s : ℕ) → part d s 1 ≡ part c s 1
  pub nexts : (s : ℕ) → part d s 2 ≡ part c s 2
  pub words : (t k : ℕ) → ((t ≡ 0) × (k ≡ 0) → ⊥) → word d t k ≡ word c t k
  pub views : (t : ℕ) → drop 16 (d.recs t) ≡ drop 16 (c.recs t)

module _ (c d : Contents) (s : ButTop c d) where
  other : (t k : ℕ) → 1 ≤ k → word d t k ≡ word c t k
  other t k l = s.words t k (λ e. let z = e.1 in omega (arith, z, l))

  -- TASKS
  same_idle : idle_test d ≡ idle_test c
  unfolding idle_test
  same_idle =
      ap₂ (λ (l : List ℕ) (f : ℕ → Bool). both (leb (length l) 127) (both (distinct 128 l) (each f l))) s.idle
      (fun_ext λ t. ⊎_elim (λ e. both_off _ (lt-leb 1 t (omega (arith, e))) ∙ sym (both_off _ (lt-leb 1 t (omega (arith, e)))))
      (λ n. ap (λ (x : ℕ). both (leb 1 t) (eqb x FREE)) (s.words t STATUS (λ e. n e.0))) (equal? t 0))

  same_kin : (t p y : ℕ) → kin d t p y ≡ kin c t p y
  unfolding kin within
  same_kin t p y =
      ⊎_elim
      (λ e. let f = both_off (leb t 127) (lt-leb 1 t (omega (arith, e))) in ap (either (eqb t NONE)) (both_off _ f ∙ sym (both_off _ f)))
      (λ n.
      ap₂ (λ (x : ℕ) (b : Bool). either (eqb t NONE) (both (both (leb 1 t) (leb t 127)) (both (eqb x UNFINISHED) b))) (s.words t STATUS (λ e. n e.0))
      (ap₂ (λ (x : ℕ) (b : Bool). both (eqb x p) b) (other t PARENT (omega arith))
      (ap₂ (λ (x : ℕ) (b : Bool). both (eqb x y) b) (other t YOUNGER (omega arith))
      (ap₂ subset (other t RIGHTS (omega arith)) (other p RIGHTS (omega arith))))))
      (equal? t 0)

  same_link : (x : ℕ) → link_test d x ≡ link_test c x
  unfolding link_test
  same_link x =
      ap₂ (λ (a b : Bool). pick (ltb x 128) a b)
      (same_kin (word d x YOUNGEST) x NONE ∙ ap (λ (y : ℕ). kin c y x NONE) (other x YOUNGEST (omega arith)))
      (same_kin (word d (x - 128) OLDER) (word d (x - 128) PARENT) (x - 128)
      ∙ ap₂ (λ (y z : ℕ). kin c y z (x - 128)) (other (x - 128) OLDER (omega arith)) (other (x - 128) PARENT (omega arith)))

  same_after : (x : ℕ) → after d.recs x ≡ after c.recs x
  unfolding after word
  same_after x =
      ap₂ (λ (a b : ℕ). pick (ltb x 128) a b) (ap (entering x) (other x YOUNGEST (omega arith)))
      (ap₂ entering (other (x - 128) PARENT (omega arith)) (other (x - 128) OLDER (omega arith)))

  same_tree : (k x : ℕ) → tree_test d k x ≡ tree_test c k x
  unfolding tree_test
  same_tree zero x = refl
  same_tree (suc k) x =
      ap₂ (λ (a b : Bool). pick (eqb x 128) (eqb k 0) (both a b)) (same_link x) (same_tree k (after d.recs x) ∙ ap (tree_test c k) (same_after x))

  same_tour : (k x : ℕ) → tour k d.recs x ≡ tour k c.recs x
  unfolding tour
  same_tour zero x = refl
  same_tour (suc k) x =
      ap (λ (l : List ℕ). pick (leb END x) [] (x ∷ l)) (same_tour k (after d.recs x) ∙ ap (tour k c.recs) (same_after x))

  -- VIEWS
  same_views : views_test d ≡ views_test c
  unfolding views_test
  same_views = fun_ext λ t. ap₂ (λ (x : ℕ) (l : List ℕ). each_word (view_word x) VIEW_WORDS 0 l) (other t RIGHTS (omega arith)) (s.views t)

  same_passed : (q t k o : ℕ) → passed_at d q t k o ≡ passed_at c q t k o
  unfolding passed_at
  same_passed q t k o = ap₂ (λ (x y : ℕ). passed x y o) (other t (20 + k * 4 + q) (omega arith)) (other t (32 + k * 4 + q) (omega arith))

  same_order_at : (q x o : ℕ) → order_at d q x o ≡ order_at c q x o
  unfolding order_at
  same_order_at q x o =
      ap₂ (λ (a b : ℕ). pick (ltb x 128) a b)
      (ap₂ (λ (r a : ℕ). pick (uses r q) a o) (other x RIGHTS (omega arith))
      (same_passed q x USER (passed_at d q x RIGHT o) ∙ ap (passed_at c q x USER) (same_passed q x RIGHT o)))
      (ap₂ (λ (r a : ℕ). pick (uses r q) a o) (other (x - 128) RIGHTS (omega arith)) (same_passed q (x - 128) CHILDREN o))

  same_order : (q : ℕ) (xs : List ℕ) (o : ℕ) → order_of d q xs o ≡ order_of c q xs o
  unfolding order_of
  same_order q [] o = refl
  same_order q (x ∷ xs) o = same_order q xs (order_at d q x o) ∙ ap (order_of c q xs) (same_order_at q x o)

  same_owners : (q : ℕ) (ts : List ℕ) → owners d q ts ≡ owners c q ts
  unfolding owners
  same_owners q [] = refl
  same_owners q (t ∷ ts) = ap₂ (λ (x : ℕ) (l : List ℕ). pick (eqb x NONE) l (t ∷ l)) (other t (16 + q) (omega arith)) (same_owners q ts)

  same_heads : (ts : List ℕ) → heads d ts ≡ heads c ts
  unfolding heads
  same_heads [] = refl
  same_heads (t ∷ ts) = ap₂ (λ (r l : List ℕ). locals 16 r ++ l) (s.views t) (same_heads ts)

  same_tails : (ts : List ℕ) → tails d ts ≡ tails c ts
  unfolding tails
  same_tails [] = refl
  same_tails (t ∷ ts) =
      ap₂ (λ (r l : List ℕ). locals 12 r ++ l) (sym (drop-drop 16 16 (d.recs t)) ∙ ap (drop 16) (s.views t) ∙ drop-drop 16 16 (c.recs t)) (same_tails ts)

  -- SEGMENTS
  same_segment : (i : ℕ) → i < 256 → segment_test d i ≡ segment_test c i
  unfolding segment_test
  same_segment i l =
      ap₂ (λ (a b : Bool). both a b) (ap₂ ltb (s.firsts i l) s.length)
      (ap₂ (λ (a b : Bool). both a b) (ap₂ leb (s.counts i) s.length) (ap₂ (λ (x n : ℕ). either (ltb x n) (eqb x NONE)) (s.nexts i) s.number))

  same_chain : (k i : ℕ) → chain d k i ≡ chain c k i
  unfolding chain
  same_chain zero i = refl
  same_chain (suc k) i =
      ap₂ (λ (x : ℕ) (l : List ℕ). i ∷ pick (eqb x NONE) [] l) (s.nexts i) (same_chain k (part d i 2) ∙ ap (chain c k) (s.nexts i))

  same_chains : (hs : List ℕ) → chains d hs ≡ chains c hs
  unfolding chains
  same_chains [] = refl
  same_chains (h ∷ hs) = ap₂ (λ (a b : List ℕ). a ++ b) (ap (λ (n : ℕ). chain d n h) s.number ∙ same_chain c.number h) (same_chains hs)

  same_held : (hs es : List ℕ) → held_test d hs es ≡ held_test c hs es
  unfolding held_test
  same_held hs es =
      ap₂ (λ (a b : Bool). both a b) (both_lists (same_chains hs))
      (ap₂ (λ (a b : Bool). both a b)
      (sizes (same_chains hs))
      (ap₂ (λ (a b : Bool). both a b)
      (ap₂ each (fun_ext λ i. ap₂ (λ (x y : ℕ). either (eqb x NONE) (not (eqb y 0))) (s.nexts i) (s.counts i)) (same_chains hs))
      (ap₂ (λ (a b : Bool). both a b) (both_lists refl)
      (ap (λ (f : ℕ → Bool). both (eqb (length es) (length hs)) (each f es)) (fun_ext λ i. ap (λ (x : ℕ). eqb x NONE) (s.nexts i))))))
    where
      both_lists : {a b : List ℕ} → a ≡ b → distinct d.number (d.free ++ a) ≡ distinct c.number (c.free ++ b)
      both_lists e = ap₂ distinct s.number (ap₂ (λ (x y : List ℕ). x ++ y) s.free e)

      sizes : {a b : List ℕ} → a ≡ b → eqb (length d.free + length a) d.number ≡ eqb (length c.free + length b) c.number
      sizes e = ap₂ eqb (ap₂ (λ (x y : List ℕ). length x + length y) s.free e) s.number

  -- ALL BUT THE TOP'S OWN RULE
  seen : (xs : List ℕ) → Seen c xs → Seen d xs
  unfolding order_test owners_test
  seen xs w =
      record {
        words = ap (λ (f : ℕ → Bool). each f (entered xs)) same_views ∙ w.words;
        order = ap each_queue (fun_ext λ q. ap (λ (x : ℕ). eqb x 1) (same_order q xs 0)) ∙ w.order;
        owned = ap each_queue (fun_ext λ q. ap (λ (l : List ℕ). eqb (length l) 1) (same_owners q (entered xs))) ∙ w.owned;
        segs =
            let l = s.few in
            ap (λ (n : ℕ). upto (segment_test d) n 0) s.number
            ∙ says_upto (segment_test d) c.number 0 (λ x i j. same_segment x (omega (arith, j, l)) ∙ upto_says (segment_test c) c.number 0 w.segs x i j);
        holding =
            ap₂ (held_test d) (same_heads (entered xs)) (same_tails (entered xs)) ∙ same_held (heads c (entered xs)) (tails c (entered xs)) ∙ w.holding;
      }

  pub passed_but_top : top_test d ≡ true → Passed c → Passed d
  passed_but_top top p =
      record {
        range = ap₂ in_range s.length s.number ∙ p.range;
        room = ap₂ (λ (l : List ℕ) (n : ℕ). leb (length l) n) s.free s.number ∙ p.room;
        top = top;
        free = same_idle ∙ p.free;
        tree = ap (λ (l : List ℕ). tree_test d (2 * (128 - length l)) 0) s.idle ∙ same_tree _ 0 ∙ p.tree;
        seen = subst (Seen d) (sym (ap (λ (l : List ℕ). tour (2 * (128 - length l)) d.recs 0) s.idle ∙ same_tour _ 0)) (seen _ p.seen);
      }
