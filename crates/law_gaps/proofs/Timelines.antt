-- LAWS OF THE TIMELINE: of a line in parts, about a task's spot, and when the latest gap grows.
use Rattle.std.specs.Prelude.{◌≡◌, refl, ℕ, ◌≤◌}
use Rattle.std.proofs.Common.{ap, ◌∙◌, arith}
use Rattle.std.proofs.Math.Path.{sym}
use mathlib.Core.List.{List, [], ◌∷◌, ◌++◌, append_assoc, append-nil}
use Rattle.spec_lists.specs.Counting.{one_yes, occurrences, occurs_append}
use Rattle.law_order_queue.specs.Points.{Point, value, user, values}
use Rattle.spec_lists.specs.Maps.{put_same, put_other, off, Agree, agree_put, last_of, all_front, all_behind, last_off, last_in}
use Rattle.law_gaps.specs.Line.{base, exited, entered, pass, Line, segments}
use Rattle.law_gaps.specs.Store.{values_in, timeline}
use Rattle.law_gaps.specs.Moves.{stored}
use Rattle.law_gaps.specs.Places.{grow}
use Rattle.law_gaps.proofs.Chains.{Gap, NoGap, Sole}

pub values_append : (a b : List ℕ) → values (a ++ b) ≡ values a ++ values b
values_append [] b = refl
values_append (x ∷ a) b = ap (λ (l : List Point). value x ∷ l) (values_append a b)

module _ (contents : ℕ → List ℕ) where
  pub in_append : (a b : List ℕ) → values_in contents (a ++ b) ≡ values_in contents a ++ values_in contents b
  in_append [] b = refl
  in_append (s ∷ a) b =
      ap (λ (l : List Point). values (contents s) ++ l) (in_append a b) ∙ sym (append_assoc (values (contents s)) (values_in contents a) (values_in contents b))

  pub timeline_append : (b a : Line) → timeline contents (b ++ a) ≡ timeline contents a ++ timeline contents b
  timeline_append [] a = sym (append-nil (timeline contents a))
  timeline_append (base c ∷ b) a =
      ap (λ (l : List Point). l ++ values_in contents c) (timeline_append b a) ∙ append_assoc (timeline contents a) (timeline contents b) (values_in contents c)
  timeline_append (exited t ∷ b) a = timeline_append b a
  timeline_append (entered t c ∷ b) a =
      ap (λ (l : List Point). l ++ (user t ∷ values_in contents c)) (timeline_append b a)
      ∙ append_assoc (timeline contents a) (timeline contents b) (user t ∷ values_in contents c)
  timeline_append (pass x ∷ b) a = timeline_append b a

-- what is not written is carried
module _ (contents contents' : ℕ → List ℕ) where
  pub in_keep : (c : List ℕ) → Agree contents contents' c → values_in contents' c ≡ values_in contents c
  in_keep [] e = refl
  in_keep (s ∷ c) e = rw (e.0, in_keep c e.1) refl

  pub timeline_keep : (l : Line) → Agree contents contents' (segments l) → timeline contents' l ≡ timeline contents l
  timeline_keep [] e = refl
  timeline_keep (base c ∷ l) e = rw (timeline_keep l (all_behind _ c (segments l) e), in_keep c (all_front _ c (segments l) e)) refl
  timeline_keep (exited t ∷ l) e = timeline_keep l e
  timeline_keep (entered t c ∷ l) e = rw (timeline_keep l (all_behind _ c (segments l) e), in_keep c (all_front _ c (segments l) e)) refl
  timeline_keep (pass x ∷ l) e = timeline_keep l e

  -- ABOUT A SPOT: the points xs come in just before the spot of t.
  pub timeline_around : (b : Line) (t : ℕ) (c : List ℕ) (a a' : Line) (xs : List Point) → timeline contents' a' ≡ timeline contents a ++ xs
      → Agree contents contents' c → Agree contents contents' (segments b)
      → timeline contents' (b ++ (entered t c ∷ a')) ≡ timeline contents a ++ (xs ++ (user t ∷ (values_in contents c ++ timeline contents b)))
  timeline_around b t c a a' xs e f g =
      timeline_append contents' b (entered t c ∷ a')
      ∙ (rw (e, in_keep c f, timeline_keep b g) (append_assoc (timeline contents a ++ xs) (user t ∷ values_in contents c) (timeline contents b))
      ∙ append_assoc (timeline contents a) xs (user t ∷ (values_in contents c ++ timeline contents b)))

pub timeline_at : (contents : ℕ → List ℕ) (b : Line) (t : ℕ) (c : List ℕ) (a : Line)
    → timeline contents (b ++ (entered t c ∷ a)) ≡ timeline contents a ++ (user t ∷ (values_in contents c ++ timeline contents b))
timeline_at contents b t c a =
    timeline_append contents b (entered t c ∷ a) ∙ append_assoc (timeline contents a) (user t ∷ values_in contents c) (timeline contents b)

-- THE LATEST GAP GROWS by the chain c.
module _ (contents : ℕ → List ℕ) (c : List ℕ) where
  pub timeline_link : {a : Line} {p : ℕ} {r : List ℕ} → Gap a p r
      → timeline contents (grow a c (p ∷ (r ++ c))) ≡ timeline contents a ++ values_in contents c
  timeline_link {r = r} (Gap.at_base {l = l}) = rw (in_append contents r c) (simp append_assoc)
  timeline_link {r = r} (Gap.at_entered {l = l}) = rw (in_append contents r c) (simp append_assoc)
  timeline_link (Gap.on_exited g) = timeline_link g
  timeline_link (Gap.on_pass g) = timeline_link g

  pub timeline_bare : (d : List ℕ) {a : Line} → NoGap a → timeline contents (grow a c d) ≡ timeline contents a ++ values_in contents c
  timeline_bare d NoGap.at_entered = simp append_assoc
  timeline_bare d (NoGap.on_exited g) = timeline_bare d g
  timeline_bare d (NoGap.on_pass g) = timeline_bare d g

  pub timeline_sole : {a : Line} {p : ℕ} → Sole a p → contents p ≡ [] → timeline contents (grow a c c) ≡ timeline contents a ++ values_in contents c
  timeline_sole (Sole.at_base {l = l}) e = rw e (rw (append-nil (timeline contents l)) refl)
  timeline_sole (Sole.on_exited g) e = timeline_sole g e
  timeline_sole (Sole.on_pass g) e = timeline_sole g e

-- ONE MORE VALUE at the end of the latest gap
module _ (contents : ℕ → List ℕ) (v : ℕ) where
  in_stored : (p : ℕ) (r : List ℕ) → ((x : ℕ) → occurrences x (p ∷ r) ≤ 1)
      → values_in (stored (last_of p r) v contents) (p ∷ r) ≡ values_in contents (p ∷ r) ++ (value v ∷ [])
  unfolding occurrences
  in_stored p [] u =
      rw (put_same contents p (contents p ++ (v ∷ [])))
      (rw (values_append (contents p) (v ∷ [])) (rw (append-nil (values (contents p))) (append-nil (values (contents p) ++ (value v ∷ [])))))
  in_stored p (t ∷ r) u =
      rw (put_other contents (last_of t r) (contents (last_of t r) ++ (v ∷ [])) p
      (λ e. last_off p t r (off p (t ∷ r) (omega (arith, u p, one_yes p p refl))) (sym e)))
      (ap (λ (l : List Point). values (contents p) ++ l) (in_stored t r (λ x. omega (arith, u x)))
      ∙ sym (append_assoc (values (contents p)) (values_in contents (t ∷ r)) (value v ∷ [])))

  before : (p : ℕ) (r : List ℕ) (l : Line) → ((x : ℕ) → occurrences x (p ∷ (r ++ segments l)) ≤ 1)
      → timeline (stored (last_of p r) v contents) l ≡ timeline contents l
  unfolding occurrences
  before p r l u =
      let z = last_of p r in
      timeline_keep contents (stored z v contents) l
      (agree_put contents z _ (segments l) (off z (segments l) (omega (arith, u z, occurs_append z r (segments l), last_in p r))))

  pub timeline_stored : {a : Line} {p : ℕ} {r : List ℕ} → Gap a p r → ((x : ℕ) → occurrences x (segments a) ≤ 1)
      → timeline (stored (last_of p r) v contents) a ≡ timeline contents a ++ (value v ∷ [])
  unfolding occurrences
  timeline_stored {p = p} {r = r} (Gap.at_base {l = l}) u =
      rw (before p r l u)
      (ap (λ (k : List Point). timeline contents l ++ k) (in_stored p r (λ x. omega (arith, u x, occurs_append x r (segments l))))
      ∙ sym (append_assoc (timeline contents l) (values_in contents (p ∷ r)) (value v ∷ [])))
  timeline_stored {p = p} {r = r} (Gap.at_entered {t = t} {l = l}) u =
      rw (before p r l u)
      (ap (λ (k : List Point). timeline contents l ++ (user t ∷ k)) (in_stored p r (λ x. omega (arith, u x, occurs_append x r (segments l))))
      ∙ sym (append_assoc (timeline contents l) (user t ∷ values_in contents (p ∷ r)) (value v ∷ [])))
  timeline_stored (Gap.on_exited g) u = timeline_stored g u
  timeline_stored (Gap.on_pass g) u = timeline_stored g u
