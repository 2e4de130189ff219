-- WHAT PUSHING ASKS OF THE WORDS. Memory of any origin that passes the rules has it, and a push keeps it; the rules need not hold after a push.
use Rattle.std.specs.Prelude.{◌≡◌, true, List, ℕ, ◌+◌, ◌*◌, ◌<◌, ◌≤◌}
use Rattle.std.proofs.Common.{ap, ◌∙◌, arith}
use Rattle.std.proofs.Math.Path.{sym}
use Rattle.std.proofs.Math.Logic.{⊎_elim, inl, inr}
use Rattle.spec_words.specs.Words.{size}
use Rattle.spec_layout.specs.Layout.{WORDS, NL, STATUS, USER, TAILS, number_word, free_segment, task, first, count, length_of, Opened, ValuesFit}
use Rattle.spec_layout.specs.Layout.{free_height, tail, read}
use Rattle.spec_layout.proofs.Frame.{record_word}
use Rattle.spec_rules.specs.Contents.{decode, word}
use Rattle.spec_rules.specs.Rules.{Holder}
use Rattle.spec_rules.specs.Test.{rules_hold}
use Rattle.spec_outcomes.specs.Views.{view_of, is_empty, task_at, kind_at, just_before}
use Rattle.spec_outcomes.specs.Waits.{unfinished}
use Rattle.law_maps.specs.Finish.{kind_below}
use Rattle.law_in_range.specs.Sound.{Live, Sound, rules_sound, unfinished_live}
use Rattle.law_push_runs.specs.Searched.{before_held}

-- a tail that is a segment is one opened, and its places and its count are in range
abbrev pub SoundTail : List ℕ → ℕ → Type 0
SoundTail m e = e < NL → (Opened m e) × (read m (first e) < length_of m e) × (read m (count e) ≤ length_of m e)

-- the view just before is a task's, and ends in a segment opened if it ends in one
abbrev pub SoundBefore : List ℕ → ℕ → ℕ → Type 0
SoundBefore m t q =
    let x = just_before m q t in
    (task_at x < 128) × (read m (tail (kind_at x) (task_at x) q) < NL → Opened m (read m (tail (kind_at x) (task_at x) q)))

pub record Pushable (m : List ℕ) (t q : ℕ) : Type 0 where
  pub words : size m ≡ WORDS
  pub lengths : (s : ℕ) → (0 < length_of m s) × (length_of m s ≤ 64)
  pub number : read m number_word ≤ 256
  pub fit : ValuesFit m
  -- the free segments are segments opened
  pub few : free_height m q ≤ 256
  pub free : (i : ℕ) → i < free_height m q → Opened m (read m (free_segment i))
  pub user : SoundTail m (read m (tail USER t q))
  pub before : is_empty (view_of m q t USER) ≡ true → SoundBefore m t q

module _ (m : List ℕ) (t q : ℕ) (big : size m ≡ WORDS) (ok : rules_hold m ≡ true) (there : unfinished m t ≡ true) (small : q < 4) where
  s : Sound m
  s = rules_sound m big ok

  holder : Holder (decode m) t
  unfolding word
  holder = ⊎_elim inl (λ w. inr (w.0, record_word m t STATUS ∙ w.1)) (unfinished_live m t there)

  live : Live m (task_at (just_before m q t))
  unfolding word
  live = ⊎_elim inl (λ w. inr (w.0, sym (record_word m _ STATUS) ∙ w.1)) (before_held m t q s.tasks small holder)

  tail_place : (k : ℕ) → TAILS + (k * 4 + q) ≡ TAILS + k * 4 + q
  tail_place k = omega arith

  tail_opened : (u k : ℕ) → Live m u → k < 3 → read m (tail k u q) < NL → Opened m (read m (tail k u q))
  tail_opened u k h l f =
      let e = ap (λ (i : ℕ). read m (task u i)) (tail_place k) in
      let a = s.tails_open u (k * 4 + q) h (omega (arith, small, l)) (omega (arith, e, f)) in
      omega (arith, a, e)

  before_sound : SoundBefore m t q
  before_sound =
      (⊎_elim (λ e. omega (arith, e)) (λ w. w.0) live, λ f. tail_opened _ _ live (kind_below (just_before m q t)) f)

  pub rules_pushable : Pushable m t q
  rules_pushable =
      record {
        words = big;
        lengths = λ x. s.length_range x;
        number = s.number_range.1;
        fit = s.product_range;
        few = let a = s.free_height_lem q in let b = s.number_range.1 in omega (arith, a, b);
        free = s.free_open q;
        user = λ f. let a = tail_opened t USER (unfinished_live m t there) (omega arith) f in (a, s.firsts _ a, s.counts _ a);
        before = λ d. before_sound;
      }
