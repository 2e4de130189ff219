-- WHAT IS FREE once a segment was taken and its head was reduced into the view just before: the link may free one.
use Rattle.std.specs.Prelude.{◌≡◌, refl, Bool}
use Rattle.std.proofs.Math.Path.{ap, subst}
use Rattle.std.proofs.Common.{sym, ◌∙◌, arith, lt-ltb}
use Rattle.std.proofs.Math.Bool.{true, false}
use mathlib.Core.List.{List, [], ◌∷◌}
use Prim.Native.Nat.{ℕ, ◌+◌, ◌-◌, ◌<◌, ◌≤◌}
use Rattle.spec_words.specs.Words.{size, pick, halt}
use Rattle.spec_words.specs.Blocks.{store_all, size_store_all}
use Rattle.spec_layout.specs.Layout.{WORDS, free_segments, free_segment, segment, task, next, Opened}
use Rattle.spec_layout.specs.Layout.{free_height, address, read, write}
use Rattle.spec_layout.proofs.Frame.{read_same, size_write}
use Rattle.spec_outcomes.specs.Segments.{taken, released, renamed}
use Rattle.law_maps.specs.Kept.{Only, only_then, read_away}
use Rattle.law_push_runs.specs.Pushable.{Pushable}
use Rattle.law_push_runs.specs.Watched.{Watched, height, top, link, behind, untouched, record_untouched}
use Rattle.law_push_runs.specs.NewTail.{s, rest, new_low, taken_size, taken_height}

module _ (m : List ℕ) (t q v : ℕ) (p : Pushable m t q) (some : 0 < free_height m q) where
  abbrev new : ℕ
  new = s m t q v p some

  abbrev low : ℕ
  low = rest m t q v p some

  -- h segments are free in n, and those that were not free before are segments opened
  pub record Grown (n : List ℕ) (h : ℕ) : Type 0 where
    pub kept : Only (Watched new low) (taken m q v) n
    pub high : read n free_segments ≡ h
    pub most : h ≤ 256
    pub more : (i : ℕ) → low ≤ i → i < h → Opened m (read n (free_segment i))

  few : low ≤ 255
  few = let a = p.few in omega (arith, a)

  pub grown_size : {n : List ℕ} {h : ℕ} → Grown n h → size n ≡ WORDS
  grown_size g = g.kept.words ∙ taken_size m t q v p some

  pub begins : Grown (taken m q v) low
  begins =
      record {
        kept = record { words = refl; same = λ f w. refl };
        high = taken_height m t q v p some;
        most = let a = few in omega (arith, a);
        more = λ i a b. let z : ⊥ = omega (arith, a, b) in absurd z;
      }

  -- a word of a task, and a link between segments
  pub task_write : {n : List ℕ} {h : ℕ} (u k w : ℕ) → Grown n h → Grown (write n (task u k) w) h
  unfolding address
  task_write {n} u k w g =
      record {
        kept = only_then g.kept (untouched new low (new_low m t q v p some) few n (task u k) w (behind (omega arith)));
        high = read_away n (task u k) free_segments w (λ e. omega (arith, e)) ∙ g.high;
        most = g.most;
        more = λ i a b.
            let e = read_away n (task u k) (free_segment i) w (let l = g.most in λ d. omega (arith, d, b, l)) in
            let c = g.more i a b in
            omega (arith, e, c);
      }

  pub link_write : {n : List ℕ} {h : ℕ} (r w : ℕ) → Grown n h → Grown (write n (next r) w) h
  unfolding address
  link_write {n} r w g =
      record {
        kept = only_then g.kept (untouched new low (new_low m t q v p some) few n (next r) w (link r refl));
        high = read_away n (next r) free_segments w (λ e. omega (arith, e)) ∙ g.high;
        most = g.most;
        more = λ i a b.
            let e = read_away n (next r) (free_segment i) w (let l = g.most in λ d. omega (arith, d, b, l)) in
            let c = g.more i a b in
            omega (arith, e, c);
      }

  -- what names a segment names another
  chosen : {a b : List ℕ} {h : ℕ} (c : Bool) → Grown a h → Grown b h → Grown (pick c a b) h
  unfolding pick
  chosen true x y = x
  chosen false x y = y

  pub name_write : {n : List ℕ} {h : ℕ} (e w : ℕ) → Grown n h → Grown (renamed n q e w) h
  unfolding renamed
  name_write e w g = chosen _ (task_write _ _ w g) (chosen _ (link_write _ w g) g)

  -- a segment given back
  pub release : {n : List ℕ} (e : ℕ) → (e ≡ new → ⊥) → Opened m e → Grown n low → Grown (released n q e) (low + 1)
  unfolding released address
  release {n} e ne opened g =
      subst (λ (l : List ℕ). Grown l (low + 1)) (sym (halt _ _ (lt-ltb (read n free_segments) 256 (let a = g.high in let b = few in omega (arith, a, b)))))
      (record {
        kept = only_then g.kept (only_then (record_untouched new low (new_low m t q v p some) few n e 0 0 0 ne)
            (only_then (untouched new low (new_low m t q v p some) few u1 (free_segment (read n free_segments)) e (top (ap (λ (i : ℕ). 64 + i) g.high)))
            (untouched new low (new_low m t q v p some) few u2 free_segments (read n free_segments + 1) (height refl))));
        high = read_same u2 free_segments (read n free_segments + 1) size2 (omega arith) ∙ ap (λ (i : ℕ). i + 1) g.high;
        most = let b = few in omega (arith, b);
        more = λ i a b.
            let d : i ≡ read n free_segments = (let c = g.high in omega (arith, a, b, c)) in
            let j = read_away u2 free_segments (free_segment i) (read n free_segments + 1) (λ z. omega (arith, z)) in
            let k = ap (λ (x : ℕ). read u2 (free_segment x)) d in
            let l = read_same u1 (free_segment (read n free_segments)) e size1 (let c = g.high in let x = few in omega (arith, c, x)) in
            omega (arith, j, k, l, opened);
      })
    where
      u1 : List ℕ
      u1 = store_all n (address (segment e 0)) (0 ∷ 0 ∷ 0 ∷ [])

      u2 : List ℕ
      u2 = write u1 (free_segment (read n free_segments)) e

      size1 : size u1 ≡ WORDS
      size1 = size_store_all n _ _ ∙ grown_size g

      size2 : size u2 ≡ WORDS
      size2 = size_write u1 (free_segment (read n free_segments)) e ∙ size1
