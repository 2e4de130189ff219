-- WHAT EACH CALL DOES TO THE VIEWS ALONG THE LINE: spawn, sync, push, pop. (Finish has a file of its own.)
use Rattle.std.specs.Prelude.{◌≡◌, refl, ℕ, ◌+◌, eqb}
use Rattle.std.proofs.Common.{ap, sym, ◌∙◌, arith}
use mathlib.Core.List.{List, [], ◌∷◌, ◌++◌, append_assoc}
use Rattle.spec_lists.specs.Counting.{one, one_yes, occurrences}
use Rattle.spec_lists.specs.Maps.{put, put_same, put_other, Off, off, Agree, agree_refl, agree_put, agree_trans, last_of, all_front, all_behind}
use Rattle.law_gaps.specs.Line.{End, nonlocal, local, Extent, vacant, extent, base, exited, entered, pass, Line, exits, entries, Mode, rest, close, bare, begun, Views}
use Rattle.law_gaps.specs.Line.{queue, exiting, entering, passing}
use Rattle.law_gaps.specs.Store.{Once}
use Rattle.law_gaps.specs.Lines.{exits_append, entries_append, count_exits, count_entries, once_behind, exited_off, entered_off, New}
use Rattle.law_gaps.proofs.Frames.{clash, keep, replace, replace_only}
use Rattle.law_gaps.specs.Moves.{Place, reduced, children_with, rights_with}
use Rattle.law_gaps.specs.Places.{Target, grow, target_in, children_outside, rights_outside}
use Rattle.law_gaps.proofs.Reductions.{fuse, stretch, deposit}

module _ (children user right : ℕ → Extent) (b : Line) (t : ℕ) (d : List ℕ) (a : Line) where
  abbrev Around : Line
  Around = b ++ (entered t d ∷ a)

  -- SPAWN of c by t, both with a right: c gets t's user view, and t a vacant one; c's other views are vacant.
  pub spawn_views : (c : ℕ) {n : Mode} → Once Around → New c Around → Views children user right Around n
      → Views (put children c vacant) (put (put user c (user t)) t vacant) (put right c vacant) (b ++ (entered t d ∷ (entered c [] ∷ (exited c ∷ a)))) n
  unfolding occurrences
  spawn_views c once new r =
      replace b (entered t d) a (entered t d ∷ (entered c [] ∷ (exited c ∷ a)))
      (agree_put children c vacant (exits b) later_exited) (users (entries b) later_entered spawner.0) (agree_put right c vacant (entries b) later_entered) go r
    where
      p : occurrences c (exits Around) ≡ occurrences c (exits b) + occurrences c (exits a)
      p = count_exits c b (entered t d ∷ a)

      q : occurrences c (entries Around) ≡ occurrences c (entries b) + (one (eqb t c) + occurrences c (entries a))
      q = count_entries c b (entered t d ∷ a)

      later_exited : Off c (exits b)
      later_exited = off c (exits b) (omega (arith, new.0, p))

      earlier_exited : Off c (exits a)
      earlier_exited = off c (exits a) (omega (arith, new.0, p))

      later_entered : Off c (entries b)
      later_entered = off c (entries b) (omega (arith, new.1, q))

      earlier_entered : Off c (entries a)
      earlier_entered = off c (entries a) (omega (arith, new.1, q))

      ne : t ≡ c → ⊥
      ne e = omega (arith, new.1, q, one_yes t c e)

      spawner : Off t (entries b) × Off t (entries a)
      spawner = entered_off t d b a once

      users : (l : List ℕ) → Off c l → Off t l → Agree user (put (put user c (user t)) t vacant) l
      users l o n = agree_trans user (put user c (user t)) _ l (agree_put user c _ l o) (agree_put _ t vacant l n)

      go : (m : Mode) → Views children user right (entered t d ∷ a) m
          → Views (put children c vacant) (put (put user c (user t)) t vacant) (put right c vacant) (entered t d ∷ (entered c [] ∷ (exited c ∷ a))) m
      go m (entering v w e i f g r) =
          entering vacant w (put_same _ t vacant) rest (put_other right c vacant t ne ∙ f) g
          (entering v vacant (put_other _ t vacant c (λ z. ne (sym z)) ∙ (put_same user c _ ∙ e)) i (put_same right c vacant) bare
          (exiting vacant (put_same children c vacant) rest
          (keep (agree_put children c vacant (exits a) earlier_exited) (users (entries a) earlier_entered spawner.1)
          (agree_put right c vacant (entries a) earlier_entered) r)))

  -- SPAWN of c by t, where c has no right
  pub spawn_past_views : (x y : ℕ) {n : Mode} → Views children user right Around n
      → Views children user right (b ++ (entered t d ∷ (pass x ∷ (pass y ∷ a)))) n
  spawn_past_views x y r = replace_only b (entered t d) a (entered t d ∷ (pass x ∷ (pass y ∷ a))) go r
    where
      go : (m : Mode) → Views children user right (entered t d ∷ a) m → Views children user right (entered t d ∷ (pass x ∷ (pass y ∷ a))) m
      go m (entering v w e i f g r) = entering v w e i f g (passing (passing r))

  -- PUSH by t into a new segment g behind the tail of its user view
  pub push_views : (g q : ℕ) (e : List ℕ) (h x : End) {n : Mode} → Once Around → last_of q e ≡ g → user t ≡ extent h x
      → Views children user right Around n
      → Views children (put user t (extent h (local g))) right (b ++ (entered t d ∷ grow a (g ∷ []) (q ∷ e))) n
  push_views g q e h x once z u r =
      replace b (entered t d) a (entered t d ∷ grow a (g ∷ []) (q ∷ e))
      (agree_refl children (exits b)) (agree_put user t _ (entries b) o.0) (agree_refl right (entries b)) go r
    where
      o : Off t (entries b) × Off t (entries a)
      o = entered_off t d b a once

      go : (m : Mode) → Views children user right (entered t d ∷ a) m
          → Views children (put user t (extent h (local g))) right (entered t d ∷ grow a (g ∷ []) (q ∷ e)) m
      go m (entering v w f rest k y r) = clash (user t) f u
      go m (entering v w f close k y r) =
          let i : extent h x ≡ extent nonlocal _ = sym u ∙ f in
          let j : h ≡ nonlocal = cc in
          entering (extent nonlocal (local g)) w (put_same user t _ ∙ ap (λ (k : End). extent k (local g)) j) close k y
          (stretch g [] q e z (keep (agree_refl children (exits a)) (agree_put user t _ (entries a) o.1) (agree_refl right (entries a)) r))

  -- PUSH by t, whose user view is vacant, into a new segment g: its head goes to place k
  pub place_views : (g q : ℕ) (e : List ℕ) (k : Place) {n : Mode} → Once Around → last_of q e ≡ g → user t ≡ vacant → Target children a k
      → Views children user right Around n
      → Views (children_with (extent (local g) nonlocal) k children) (put user t (extent nonlocal (local g)))
      (rights_with (extent (local g) nonlocal) k right) (b ++ (entered t d ∷ grow a (g ∷ []) (q ∷ e))) n
  place_views g q e k once z u target r =
      replace b (entered t d) a (entered t d ∷ grow a (g ∷ []) (q ∷ e))
      (all_front _ (exits b) (exits (entered t d ∷ [])) outside) (agree_put user t _ (entries b) o.0) (all_front _ (entries b) (t ∷ []) outside') go r
    where
      o : Off t (entries b) × Off t (entries a)
      o = entered_off t d b a once

      once' : Once ((b ++ (entered t d ∷ [])) ++ a)
      once' = rw append_assoc once

      outside : Agree children (children_with (extent (local g) nonlocal) k children) (exits b ++ exits (entered t d ∷ []))
      outside =
          rw (exits_append b (entered t d ∷ [])) at
          (children_outside (local g) nonlocal children (b ++ (entered t d ∷ [])) a once' k (target_in k target))

      outside' : Agree right (rights_with (extent (local g) nonlocal) k right) (entries b ++ (t ∷ []))
      outside' =
          rw (entries_append b (entered t d ∷ [])) at
          (rights_outside (local g) nonlocal right (b ++ (entered t d ∷ [])) a once' k (target_in k target))

      go : (m : Mode) → Views children user right (entered t d ∷ a) m
          → Views (children_with (extent (local g) nonlocal) k children) (put user t (extent nonlocal (local g)))
          (rights_with (extent (local g) nonlocal) k right) (entered t d ∷ grow a (g ∷ []) (q ∷ e)) m
      go m (entering v w f close p y r) = clash (user t) u f
      go m (entering v w f rest p y r) =
          entering (extent nonlocal (local g)) w (put_same user t _) close ((all_behind _ (entries b) (t ∷ []) outside').0 ∙ p) y
          (deposit children (put user t (extent nonlocal (local g))) right g [] q e z nonlocal k
          (once_behind (b ++ (entered t d ∷ [])) a once') (begun refl) target
          (keep (agree_refl children (exits a)) (agree_put user t _ (entries a) o.1) (agree_refl right (entries a)) r))

module _ (children user right : ℕ → Extent) (b : Line) where
  -- SPAWN by a task without a right, and FINISH of one
  pub pass_past_views : (t x y : ℕ) (a : Line) {n : Mode} → Views children user right (b ++ (pass t ∷ a)) n
      → Views children user right (b ++ (pass t ∷ (pass x ∷ (pass y ∷ a)))) n
  pass_past_views t x y a r = replace_only b (pass t) a (pass t ∷ (pass x ∷ (pass y ∷ a))) go r
    where
      go : (m : Mode) → Views children user right (pass t ∷ a) m → Views children user right (pass t ∷ (pass x ∷ (pass y ∷ a))) m
      go m (passing r) = passing (passing (passing r))

  pub finish_past_views : (x y : ℕ) (a : Line) {n : Mode} → Views children user right (b ++ (pass x ∷ (pass y ∷ a))) n
      → Views children user right (b ++ a) n
  finish_past_views x y a r = replace_only b (pass x) (pass y ∷ a) a go r
    where
      go : (m : Mode) → Views children user right (pass x ∷ (pass y ∷ a)) m → Views children user right a m
      go m (passing (passing r)) = r

  -- SYNC of t: the children view joins the user view
  pub sync_views : (t : ℕ) (c : List ℕ) (a : Line) {n : Mode} → Once (b ++ (entered t c ∷ (exited t ∷ a)))
      → Views children user right (b ++ (entered t c ∷ (exited t ∷ a))) n
      → Views (put children t vacant) (put user t (reduced (children t) (user t))) right (b ++ (entered t c ∷ (exited t ∷ a))) n
  sync_views t c a once r =
      replace b (entered t c) (exited t ∷ a) (entered t c ∷ (exited t ∷ a))
      (agree_put children t vacant (exits b) nb) (agree_put user t _ (entries b) xo.0) (agree_refl right (entries b)) go r
    where
      xo : Off t (entries b) × Off t (entries a)
      xo = entered_off t c b (exited t ∷ a) once

      no : Off t (exits (b ++ (entered t c ∷ []))) × Off t (exits a)
      no = exited_off t (b ++ (entered t c ∷ [])) a (rw append_assoc once)

      nb : Off t (exits b)
      nb = all_front (λ y. y ≡ t → ⊥) (exits b) (exits (entered t c ∷ [])) (rw (exits_append b (entered t c ∷ [])) at no.0)

      go : (m : Mode) → Views children user right (entered t c ∷ (exited t ∷ a)) m
          → Views (put children t vacant) (put user t (reduced (children t) (user t))) right (entered t c ∷ (exited t ∷ a)) m
      go m (entering v w e i f g (exiting v' e' i' r)) =
          entering (reduced v' v) w (put_same user t _ ∙ (rw (e, e') refl)) (fuse i' i) f g
          (exiting vacant (put_same children t vacant) rest
          (keep (agree_put children t vacant (exits a) no.1) (agree_put user t _ (entries a) xo.1) (agree_refl right (entries a)) r))

  -- POP: the first gap loses its first segment.
  pub pop_views : (s t : ℕ) (c : List ℕ) {n : Mode} → Views children user right (b ++ (base (s ∷ (t ∷ c)) ∷ [])) n
      → Views children user right (b ++ (base (t ∷ c) ∷ [])) n
  pop_views s t c r = replace_only b (base (s ∷ (t ∷ c))) [] (base (t ∷ c) ∷ []) go r
    where
      go : (m : Mode) → Views children user right (base (s ∷ (t ∷ c)) ∷ []) m → Views children user right (base (t ∷ c) ∷ []) m
      go m (queue e) = queue e
