-- THE FIRST LINES OF A TRACE are compared with the texts with which all of it is: what a run prints first depends on its first tasks.
use Rattle.std.specs.Prelude.{◌≡◌, Bool, true, not, ℕ, zero, suc, ◌+◌, ◌<◌, ◌≤◌, length, take}
use Rattle.std.proofs.Math.Path.{refl, ap}
use Rattle.std.proofs.Common.{sym, ◌∙◌, arith}
use Rattle.std.proofs.Math.Bool.{false}
use mathlib.Core.List.{List, [], ◌∷◌, ◌++◌, append_assoc, flatten, map}
use Rattle.spec_words.specs.Words.{pick, pass, halt}
use Rattle.spec_lists.specs.Maps.{All}
use Rattle.spec_runner.specs.Answers.{core_of, runner_of}
use Rattle.spec_runner.specs.Open.{open_outcome}
use Rattle.spec_runner.specs.Step.{step_outcome}
use Rattle.spec_trace.specs.declared.Line.{Line}
use Rattle.spec_trace.specs.declared.Line.TheVariants.{Call, Left, Open}
use Rattle.spec_trace.specs.Line.{render, render_all, Valid}
use Rattle.spec_trace.specs.Form.{is_call, CallsFirst}
use Rattle.spec_replay.specs.Expected.{call_text, printed_from}
use Rattle.spec_replay.specs.AsLines.{no_tasks}
use Rattle.spec_replay.specs.Replay.{tasks_of, is_same_text, first_difference, judgement, replay_answer}
use Rattle.spec_replay.specs.Same.{text_refl}
use Rattle.runner_words.specs.Refusals.{Fits}
use Rattle.law_replay.specs.Answered.{expected, replays}

order_front : (e : Bool) (p q : List Line) → CallsFirst e (p ++ q) → CallsFirst e p
order_front e [] q h = tt
order_front e (l ∷ p) q h = (h.0, order_front (not (is_call l)) p q h.1)

module _ (j : List ℕ) where
  same_tasks : (p q : List Line) → CallsFirst true (p ++ q) → (m r : List ℕ) (c : ℕ) → printed_from j c (tasks_of (p ++ q)) m r ≡ printed_from j c (tasks_of p) m r
  same_tasks p q h m r c = ap (λ (ts : List ℕ). printed_from j c ts m r) (no_tasks (p ++ q) h ∙ sym (no_tasks p (order_front true p q h)))

  same_front : (p q : List Line) (e : Bool) → CallsFirst e (p ++ q) → (n c : ℕ) (m r : List ℕ)
      → first_difference n p (printed_from j c (tasks_of (p ++ q)) m r) ≡ first_difference n p (printed_from j c (tasks_of p) m r)
  unfolding first_difference printed_from tasks_of is_call
  same_front [] q e h n c m r = refl
  same_front (Call x t k v ∷ p) q e h n c m r =
      let o = step_outcome j m r t in
      ap (λ (d : ℕ). pick (is_same_text (render (Call x t k v)) (call_text c t o)) d (n + 1))
      (same_front p q false h.1 (n + 1) (c + 1) (core_of o) (runner_of o))
  same_front (Left x v ∷ p) q e h n c m r = ap (first_difference n (Left x v ∷ p)) (same_tasks p q h.1 m r c)
  same_front (Open x ∷ p) q e h n c m r = ap (first_difference n (Open x ∷ p)) (same_tasks p q h.1 m r c)

-- THE ANSWER for the first lines p
pub front_replays : {j m r : List ℕ} → Fits j m r → (p q : List Line) → All Valid p → length p ≤ 65535 → CallsFirst false (p ++ q)
    → replay_answer j (render_all p) m r ≡ judgement (first_difference 0 p (expected j m r (p ++ q)))
unfolding expected
front_replays {j} {m} {r} o p q v f h =
    let x = open_outcome j m r in
    replays o (record { text = refl; valid = v; order = order_front false p q h; few = f })
    ∙ ap judgement (sym (same_front j p q false h 0 0 (core_of x) (runner_of x)))

-- LINES AGREE with their own texts
pub own_texts : (k n : ℕ) (ls : List Line) → first_difference n (take k ls) (map render ls) ≡ 0
unfolding first_difference
own_texts zero n ls = refl
own_texts (suc k) n [] = refl
own_texts (suc k) n (l ∷ ls) = halt _ _ (text_refl (render l)) ∙ own_texts k (n + 1) ls

pub flat_texts : (ls : List Line) → render_all ls ≡ flatten (map render ls)
unfolding render_all flatten
flat_texts [] = refl
flat_texts (l ∷ ls) = ap (λ (t : List ℕ). render l ++ t) (flat_texts ls)

pub render_append : (p q : List Line) → render_all (p ++ q) ≡ render_all p ++ render_all q
unfolding render_all
render_append [] q = refl
render_append (l ∷ p) q = ap (λ (t : List ℕ). render l ++ t) (render_append p q) ∙ sym (append_assoc (render l) (render_all p) (render_all q))

-- THE FIRST LINE THAT DIFFERS, with number d, among lines behind n others
pub record Found (n : ℕ) (ls : List Line) (es : List (List ℕ)) (d : ℕ) : Type 0 where
  pub before : List Line
  pub line : Line
  pub behind : List Line
  pub parts : before ++ (line ∷ behind) ≡ ls
  pub number : n + length before + 1 ≡ d
  pub agree : first_difference n before es ≡ 0
  pub differ : first_difference n (before ++ (line ∷ [])) es ≡ d

pub find : (n : ℕ) (ls : List Line) (es : List (List ℕ)) → 0 < first_difference n ls es → Found n ls es (first_difference n ls es)
unfolding first_difference pick
find n [] es h = let z : ⊥ = omega (arith, h) in absurd z
find n (l ∷ ls) [] h = record { before = []; line = l; behind = ls; parts = refl; number = omega arith; agree = refl; differ = refl }
find n (l ∷ ls) (t ∷ es) h = go (is_same_text (render l) t) refl h (find (n + 1) ls es)
  where
    go : (b : Bool) → is_same_text (render l) t ≡ b → let rest = first_difference (n + 1) ls es in
        0 < pick b rest (n + 1) → (0 < rest → Found (n + 1) ls es rest) → Found n (l ∷ ls) (t ∷ es) (pick b rest (n + 1))
    go true e k more =
        let f = more k in
        record {
          before = l ∷ f.before;
          line = f.line;
          behind = f.behind;
          parts = ap (λ (us : List Line). l ∷ us) f.parts;
          number = let z = f.number in omega (arith, z);
          agree = halt _ _ e ∙ f.agree;
          differ = halt _ _ e ∙ f.differ;
        }
    go false e k more = record { before = []; line = l; behind = ls; parts = refl; number = omega arith; agree = refl; differ = pass _ e refl }
