-- The free records, one after the other.
use Rattle.std.specs.Prelude.{◌≡◌, Bool, true, false, leb, ltb, eqb, length, drop, take, replicate}
use Rattle.std.proofs.Math.Path.{refl, ap, sym}
use Rattle.std.proofs.Common.{◌∙◌, ltb-true, lt-ltb, leb-true, le-leb}
use mathlib.Core.List.{List, [], ◌∷◌}
use Prim.Native.Nat.{ℕ, zero, suc, ◌+◌, ◌*◌, ◌<◌, ◌≤◌}
use native.Mathlib.Omega.{arith}
use Rattle.std.proofs.Math.ListN.{length-drop, length-take}
use Rattle.std.proofs.lemmas.Bool.{lt-leb}
use Rattle.spec_words.specs.Words.{load, store, size, pick, both, both_on, both_off, same_test}
use Rattle.spec_words.specs.Blocks.{take_more}
use Rattle.spec_lists.specs.Tests.{each}
use Rattle.spec_lists.specs.Distinct.{fresh, distinct}
use Rattle.spec_layout.specs.Layout.{FREE, STATUS, free_tasks, read}
use Rattle.spec_rules.specs.Contents.{decode, word}
use Rattle.spec_rules.specs.Test.{idle_test}
use Rattle.tree_test.specs.Records.{status_at}

-- the k records from place i of the stack on; d has the marks of those before
unfoldable pub idle_from : ℕ → List ℕ → ℕ → List ℕ → Bool
idle_from zero m i d = true
idle_from (suc k) m i d =
    let t = load m (320 + i) in
    let rest = idle_from k m (i + 1) (store d t 1) in
    both (leb 1 t) (both (leb t 127) (both (eqb (load d t) 0) (both (eqb (load m (1472 + t * 48)) 0) rest)))

below_same : (t : ℕ) → leb t 127 ≡ ltb t 128
below_same t =
    same_test _ _
    (λ e. lt-ltb t 128 (let z = leb-true t 127 e in omega (arith, z)))
    (λ e. le-leb t 127 (let z = ltb-true t 128 e in omega (arith, z)))

shuffle : (a b z s f e : Bool) → both a (both b (both z (both s (both f e)))) ≡ both (both b (both z f)) (both (both a s) e)
unfolding both pick
shuffle true true true true f e = refl
shuffle true true true false true e = refl
shuffle true true true false false e = refl
shuffle true true false s f e = refl
shuffle true false z s f e = refl
shuffle false true true s true e = refl
shuffle false true true s false e = refl
shuffle false true false s f e = refl
shuffle false false z s f e = refl

module _ (m : List ℕ) where
  -- what a record on the stack has to be
  unfoldable pub free_one : ℕ → Bool
  free_one t = both (leb 1 t) (eqb (word (decode m) t STATUS) FREE)

  status : (t : ℕ) → load m (1472 + t * 48) ≡ word (decode m) t STATUS
  unfolding load
  status t = status_at m t

  -- the two tests of a list of records
  abbrev Parts : List ℕ → List ℕ → Bool
  Parts l d = both (fresh 128 l d) (each free_one l)

  parts_cons : (t : ℕ) (l d : List ℕ)
      → both (leb 1 t) (both (leb t 127) (both (eqb (load d t) 0) (both (eqb (load m (1472 + t * 48)) 0) (Parts l (store d t 1))))) ≡ Parts (t ∷ l) d
  unfolding fresh each free_one
  parts_cons t l d =
      ap
      (λ (b : Bool). both (leb 1 t) (both b (both (eqb (load d t) 0) (both (eqb (load m (1472 + t * 48)) 0) (Parts l (store d t 1))))))
      (below_same t)
      ∙ ap
      (λ (w : ℕ). both (leb 1 t) (both (ltb t 128) (both (eqb (load d t) 0) (both (eqb w 0) (Parts l (store d t 1))))))
      (status t)
      ∙ shuffle _ _ _ _ _ _

  parts_none : (d : List ℕ) → true ≡ Parts [] d
  unfolding fresh each both pick
  parts_none d = refl

  idle_parts : (k i : ℕ) (d : List ℕ) → 320 + i + k ≤ size m → idle_from k m i d ≡ Parts (take k (drop (320 + i) m)) d
  unfolding idle_from
  idle_parts zero i d h = parts_none d
  idle_parts (suc k) i d h =
      let t = load m (320 + i) in
      ap
      (λ (b : Bool). both (leb 1 t) (both (leb t 127) (both (eqb (load d t) 0) (both (eqb (load m (1472 + t * 48)) 0) b))))
      (idle_parts k (i + 1) (store d t 1) (omega arith)
      ∙ ap (λ (a : ℕ). Parts (take k (drop a m)) (store d t 1)) (let z : 320 + (i + 1) ≡ 320 + i + 1 = omega arith in z))
      ∙ parts_cons t (take k (drop (320 + i + 1) m)) d
      ∙ ap (λ (l : List ℕ). Parts l d) (sym (take_more k (320 + i) m (omega arith)))

  -- the whole stack, of a height that is at most 127
  pub idle_same : size m ≡ 16384 → read m free_tasks ≤ 127 → idle_from (read m free_tasks) m 0 (replicate 256 0) ≡ idle_test (decode m)
  unfolding idle_test distinct free_one
  idle_same s h =
      idle_parts (read m free_tasks) 0 (replicate 256 0) (omega (arith, s, h))
      ∙ sym (both_on (le-leb (length (take (read m free_tasks) (drop 320 m))) 127 (let a = length-take (read m free_tasks) (drop 320 m) in omega (arith, a, h))))

  -- a height above 127
  pub idle_many : size m ≡ 16384 → 127 < read m free_tasks → false ≡ idle_test (decode m)
  unfolding idle_test size
  idle_many s h =
      let a = length-drop 320 m in
      let b = length-take (read m free_tasks) (drop 320 m) in
      sym (both_off _ (lt-leb (length (take (read m free_tasks) (drop 320 m))) 127 (omega (arith, a, b, s, h))))
