-- THE BOUND on the ticks of W workers that never idle while a step could be taken: W times the ticks is at most the work plus W - 1
-- times the time when the last step is done. For any ticks of the steps. Used by the bound on the simulated time: request 6.
use Rattle.std.specs.Prelude.{◌≡◌, refl, List, [], ◌∷◌, ◌⊎◌, ℕ, suc, ◌+◌, ◌*◌, ◌≤◌, length}
use Rattle.std.proofs.Common.{ap, sym, inl, inr, ⊎_elim, mul-add, suc-mul, mul-le-mul_left, mul-le-mul_right, one-mul, mul-zero, arith}
use Rattle.spec_line.specs.Line.{Search}
use Rattle.spec_line.specs.Rights.{Tasks}
use Rattle.law_timed_line.specs.Times.{Timed}
use Rattle.spec_line.specs.Fronts.{Fronts}
use Rattle.law_timed_line.specs.Walks.{Waits}
use Rattle.law_timed_line.proofs.Agreement.{MoveOf}
use Rattle.law_timed_line.proofs.Back.{noted, BackMove, after, earlier, back_move}

-- a task under way, and the ticks that its step has had
pub data Slot (S : Type 0) : Type 0 where
  slot : S → ℕ → Slot S

module _ {S : Type 0} where
  -- u is under way, and its step has had x ticks
  abbrev pub Underway : S → ℕ → List (Slot S) → Type 0
  Underway u x [] = ⊥
  Underway u x (slot s y ∷ us) = ((s ≡ u) × (y ≡ x)) ⊎ Underway u x us

  -- n ticks pass
  abbrev pub aged : ℕ → List (Slot S) → List (Slot S)
  aged n [] = []
  aged n (slot s y ∷ us) = slot s (y + n) ∷ aged n us

  abbrev pub total : List (Slot S) → ℕ
  total [] = 0
  total (slot s y ∷ us) = y + total us

  -- s with x ticks is under way no longer
  pub data Leaves (s : S) (x : ℕ) : List (Slot S) → List (Slot S) → Type 0 where
    first : {us : List (Slot S)} → Leaves s x (slot s x ∷ us) us
    behind_it : {o : Slot S} {us vs : List (Slot S)} → Leaves s x us vs → Leaves s x (o ∷ us) (o ∷ vs)

  pub aged_total : (n : ℕ) (us : List (Slot S)) → total (aged n us) ≡ total us + length us * n
  aged_total n [] = omega arith
  aged_total n (slot s y ∷ us) = omega (arith, aged_total n us, suc-mul (length us) n)

  aged_was : (n : ℕ) (u : S) (x : ℕ) (us : List (Slot S)) → Underway u x (aged n us) → (y : ℕ) × (x ≡ y + n) × Underway u y us
  aged_was n u x [] i = absurd i
  aged_was n u x (slot s y ∷ us) (inl h) = (y, sym h.1, inl (h.0, refl))
  aged_was n u x (slot s y ∷ us) (inr i) = let w = aged_was n u x us i in (w.0, w.1, inr w.2)

  aged_is : (n : ℕ) (u : S) (x : ℕ) (us : List (Slot S)) → Underway u x us → Underway u (x + n) (aged n us)
  aged_is n u x [] i = absurd i
  aged_is n u x (slot s y ∷ us) (inl h) = inl (h.0, ap (λ (z : ℕ). z + n) h.1)
  aged_is n u x (slot s y ∷ us) (inr i) = inr (aged_is n u x us i)

  left_was : (s : S) (x : ℕ) {us vs : List (Slot S)} → Leaves s x us vs → (u : S) (y : ℕ) → Underway u y vs → Underway u y us
  left_was s x first u y i = inr i
  left_was s x (behind_it {o = slot t z} h) u y (inl e) = inl e
  left_was s x (behind_it {o = slot t z} h) u y (inr i) = inr (left_was s x h u y i)

  left_is : (s : S) (x : ℕ) {us vs : List (Slot S)} → Leaves s x us vs → (u : S) (y : ℕ) → ¬ (u ≡ s) → Underway u y us → Underway u y vs
  left_is s x first u y n (inl e) = absurd (n (sym e.0))
  left_is s x first u y n (inr i) = i
  left_is s x (behind_it {o = slot t z} h) u y n (inl e) = inl e
  left_is s x (behind_it {o = slot t z} h) u y n (inr i) = inr (left_is s x h u y n i)

  leaves_in : (s : S) (x : ℕ) {us vs : List (Slot S)} → Leaves s x us vs → Underway s x us
  leaves_in s x first = inl (refl, refl)
  leaves_in s x (behind_it {o = slot t z} h) = inr (leaves_in s x h)

  left_total : (s : S) (x : ℕ) {us vs : List (Slot S)} → Leaves s x us vs → total us ≡ x + total vs
  left_total s x first = refl
  left_total s x (behind_it {o = slot t z} h) = omega (arith, left_total s x h)

module _ {S : Type 0} (T : Tasks S) (W : Waits T) where
  -- P holds of each task that could move now, and of the time when its step would be done
  abbrev pub OfReady : Fronts → List (Timed S) → (S → ℕ → Type 0) → Type 0
  OfReady r l P = (u : S) (e : Search) (d : ℕ) (y : Fronts) (k : List (Timed S)) → MoveOf T W u e d r l y k → P u d

  -- WHAT HOLDS ALL ALONG of 1 + w workers: us are the tasks under way, idle the ticks in which some worker idled, work the ticks of the
  -- steps done.
  pub record Kept (w : ℕ) (r : Fronts) (l : List (Timed S)) (us : List (Slot S)) (clock idle work : ℕ) : Type 0 where
    pub counted : suc w * clock ≤ work + total us + w * idle
    -- a step under way that could be done now
    pub under : OfReady r l (λ u d. (x : ℕ) → Underway u x us → idle + W.ticks u ≤ d + x)
    -- a step that could be taken, or is under way
    pub ready : OfReady r l (λ u d. (idle + W.ticks u ≤ d) ⊎ ((x : ℕ) × Underway u x us))

  -- AT FIRST
  pub begins : (w : ℕ) (r : Fronts) (l : List (Timed S)) → Kept w r l [] 0 0 0
  begins w r l =
      record {
        counted = omega (arith, mul-zero (suc w));
        under = λ u e d y k m x i. absurd i;
        ready = λ u e d y k m. inl (noted T W u _ e 0 d m.walk);
      }

  module _ (w : ℕ) (r : Fronts) (l : List (Timed S)) (us : List (Slot S)) (clock idle work : ℕ) (kept : Kept w r l us clock idle work) where
    -- A WORKER TAKES the next step of u, which has none under way
    pub takes : (u : S) → ((x : ℕ) → ¬ Underway u x us) → Kept w r l (slot u 0 ∷ us) clock idle work
    takes u none =
        record {
          counted = omega (arith, kept.counted);
          under = λ v e d y k m x i. ⊎_elim (λ h. new v e d y k m x h.0 h.1) (λ j. kept.under v e d y k m x j) i;
          ready = λ v e d y k m. ⊎_elim inl (λ i. inr (i.0, inr i.1)) (kept.ready v e d y k m);
        }
      where
        new : OfReady r l (λ v d. (x : ℕ) → u ≡ v → 0 ≡ x → idle + W.ticks v ≤ d + x)
        new v e d y k m x h z = ⊎_elim (λ i. omega (arith, i, z)) (λ i. absurd (none i.0 (rw h i.1))) (kept.ready v e d y k m)

    older : (n : ℕ) → OfReady r l (λ u d. (x : ℕ) → Underway u x (aged n us) → idle + n + W.ticks u ≤ d + x)
    older n u e d y k m x i = let o = aged_was n u x us i in omega (arith, kept.under u e d y k m o.0 o.2, o.1)

    -- n TICKS PASS, all workers at work
    pub works : (n : ℕ) → length us ≡ suc w → Kept w r l (aged n us) (clock + n) idle work
    works n full =
        record {
          counted = omega (arith, kept.counted, mul-add (suc w) clock n, aged_total n us, ap (λ (x : ℕ). x * n) full);
          under = λ u e d y k m x i. omega (arith, older n u e d y k m x i);
          ready = λ u e d y k m. ⊎_elim inl (λ i. inr (i.0 + n, aged_is n u i.0 us i.1)) (kept.ready u e d y k m);
        }

    -- n TICKS PASS, a worker idles: some task is under way, and all that could move are
    pub idles : (n : ℕ) → 1 ≤ length us → OfReady r l (λ u d. (x : ℕ) × Underway u x us) → Kept w r l (aged n us) (clock + n) (idle + n) work
    idles n some greedy =
        record {
          counted =
              let g : 1 * n ≤ length us * n = mul-le-mul_right n some in
              omega (arith, kept.counted, mul-add (suc w) clock n, aged_total n us, mul-add w idle n, suc-mul w n, g, one-mul n);
          under = older n;
          ready = λ u e d y k m. let i = greedy u e d y k m in inr (i.0 + n, aged_is n u i.0 us i.1);
        }

    -- THE STEP OF s IS DONE, all its ticks had
    module _ (s : S) (f : Search) (c : ℕ) (o : Fronts) (j : List (Timed S)) (vs : List (Slot S)) (out : Leaves s (W.ticks s) us vs)
        (move : MoveOf T W s f c r l o j) where
      -- no more ticks were idle than its time
      pub idle_before : idle ≤ c
      idle_before = omega (arith, kept.under s f c o j move (W.ticks s) (leaves_in s (W.ticks s) out))

      pub done : Kept w o j vs clock idle (work + W.ticks s)
      done =
          record {
            counted = omega (arith, kept.counted, left_total s (W.ticks s) out);
            under = λ u e d y k m x i. under_way u e d x i (back_move T W s u f e c d move m);
            ready = λ u e d y k m. could u e d (back_move T W s u f e c d move m);
          }
        where
          under_way : (u : S) (e : Search) (d x : ℕ) → Underway u x vs → BackMove T W s u e c d r l → idle + W.ticks u ≤ d + x
          under_way u e d x i (after h) = omega (arith, h, idle_before)
          under_way u e d x i (earlier n y k m) = kept.under u e d y k m x (left_was s (W.ticks s) out u x i)

          could : (u : S) (e : Search) (d : ℕ) → BackMove T W s u e c d r l → (idle + W.ticks u ≤ d) ⊎ ((x : ℕ) × Underway u x vs)
          could u e d (after h) = inl (omega (arith, h, idle_before))
          could u e d (earlier n y k m) = ⊎_elim inl (λ i. inr (i.0, left_is s (W.ticks s) out u i.0 n i.1)) (kept.ready u e d y k m)

  -- THE BOUND: nothing is under way any more, and no more ticks were idle than the time c of the last step
  pub bound : (w : ℕ) (r : Fronts) (l : List (Timed S)) (clock idle work c : ℕ) → Kept w r l [] clock idle work → idle ≤ c → suc w * clock ≤ work + w * c
  bound w r l clock idle work c kept h = let b : w * idle ≤ w * c = mul-le-mul_left w h in omega (arith, kept.counted, b)
