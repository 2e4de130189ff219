-- The part that runs a body keeps its promise: after each turn of its loop the run from there on is the run from its
-- beginning, and so it is where the body ends.
use Rattle.std.specs.Prelude.{◌≡◌, ℕ, suc, ◌+◌, ◌-◌, ◌*◌, ◌%◌, ◌<◌, ◌≤◌, true, false, ◌⊎◌, List, [], ◌∷◌, length, ◌≢◌}
use Rattle.std.proofs.Math.Path.{refl, ap, ap₂}
use Rattle.std.proofs.Common.{sym, ◌∙◌, ⊎_elim, arith}
use Rattle.std.proofs.Math.ListN.{get_or-eq_default}
use types.Run.{OneOf}
use denote.Enum.Declared.{tag_of}
use Rattle.spec_words.specs.Words.{load, size}
use Rattle.spec_words.specs.Blocks.{store_all}
use Rattle.spec_order.specs.Steps.{Name}
use Rattle.spec_job.specs.declared.Instruction.{Instruction}
use Rattle.spec_job.specs.Fields.{offset, instruction_from, instruction_at}
use Rattle.spec_job.specs.Effects.{sum}
use Rattle.spec_plain.specs.Machine.{Task, state, queue}
use Rattle.spec_serial.specs.Serial.{STEPS, full}
use Rattle.spec_job.specs.Numbers.{FINISHED}
use Rattle.spec_serial.specs.Outcome.{Outcome}
use Rattle.spec_serial.specs.declared.End.{End}
use Rattle.spec_serial.specs.declared.End.TheVariants.{Ended, Spent, Refused}
use Rattle.spec_serial.specs.contracts.End.{the_type}
use Rattle.job_effect.specs.declared.Made.{Made}
use Rattle.serial_steps.specs.Steps.{Inner, Gives}
use Rattle.serial_runner.specs.declared.Ran.{Ran}
use Rattle.serial_runner.specs.Onward.{onward}
use Rattle.serial_runner.specs.Turns.{task, spent, too_many, inner_turn, return_turn}
use Rattle.serial_runner.specs.Parts.{resumed, BodyRuns, ChildRuns}
use Rattle.serial_runner.specs.Child.{one_less, one_made}

-- an instruction that does not return lies within the bytes, so that its number is small
pub position_small : (j : List ℕ) (p i b : ℕ) (s : Instruction) → s ≡ instruction_at j p i → (s.operation ≢ 0) → size j < b → i < b
position_small j p i b s es n h = within (λ l. n (ap (λ (x : Instruction). x.operation) es ∙ past l))
  where
    past : size j ≤ offset j p + i * 6 → (instruction_at j p i).operation ≡ 0
    past l = unfold instruction_at instruction_from load size in get_or-eq_default j 0 l

    within : (size j ≤ offset j p + i * 6 → ⊥) → i < b
    within f = omega (arith, f, h)

-- THE LOOP: from (n, c, r, qs, a) at the first instruction to (n', c', i, r', us, b). How many children the task has made
-- meanwhile is not said.
module _ (j : List ℕ) (m p d r n c : ℕ) (qs : List (List ℕ)) (a : List ℕ) where
  abbrev begun : Name → ℕ → List Task → List ℕ → Outcome
  begun name ch ts ms = onward j n c (m ∷ ms) (state qs (task name p 0 r ch ∷ ts) (STEPS - n)) a

  pub record Goes (n' c' i r' : ℕ) (us : List (List ℕ)) (b : List ℕ) : Type 0 where
    pub fewer : n' ≤ n
    pub tasks : c' + n' ≤ c + n
    pub same : (name : Name) (ch : ℕ) (ts : List Task) (ms : List ℕ) → length ts + 1 ≡ d
        → (ch' : ℕ) × (begun name ch ts ms ≡ onward j n' c' (m ∷ ms) (state us (task name p i r' ch' ∷ ts) (STEPS - n')) b)

  pub goes_start : Goes n c 0 r qs a
  goes_start = record { fewer = omega arith; tasks = omega arith; same = λ name ch ts ms l. (ch, refl) }

  module _ {n' c' i r' : ℕ} {us : List (List ℕ)} {b : List ℕ} (g : Goes n' c' i r' us b) (few : n ≤ STEPS) where
    -- a body that ends here with e, where the run from here on is what then follows
    ends : (e : Ran) (vs : List (List ℕ)) (b' : List ℕ) → e.left ≤ n' → e.made + e.left ≤ c' + n'
        → ((name : Name) (ch : ℕ) (ts : List Task) (ms : List ℕ) → length ts + 1 ≡ d
        → onward j n' c' (m ∷ ms) (state us (task name p i r' ch ∷ ts) (STEPS - n')) b ≡ resumed e.end j e.left e.made ts ms vs b')
        → BodyRuns j m p r d n c qs a e vs b'
    ends e vs b' x y f =
        record {
          fewer = let z = g.fewer in omega (arith, z, x);
          tasks = let z = g.tasks in omega (arith, z, y);
          runs = λ name ch ts ms l. let w = g.same name ch ts ms l in w.1 ∙ f name w.0 ts ms l;
        }

    n_few : n' ≤ STEPS
    n_few = let z = g.fewer in omega (arith, z, few)

    -- no step is left
    pub body_spent : n' ≤ 0 → BodyRuns j m p r d n c qs a (record { end = Spent; left = n'; made = c' }) us b
    unfolding resumed
    body_spent h =
        ends _ us b (omega arith) (omega arith) (λ name ch ts ms l.
        ap (λ (y : ℕ). onward j y c' (m ∷ ms) (state us (task name p i r' ch ∷ ts) (STEPS - n')) b) (let z : n' ≡ 0 = omega (arith, h) in z)
        ∙ spent j name p i r' ch ts (STEPS - n') c' m ms us b (instruction_at j p i) refl)

    module _ (s : Instruction) (es : s ≡ instruction_at j p i) (some : 0 < n') where
      pub body_full : (s.operation ≢ 8) → full s (length (queue us s.which)) ≡ true
          → BodyRuns j m p r d n c qs a (record { end = Refused 9; left = n'; made = c' }) us b
      unfolding resumed
      body_full e f = ends _ us b (omega arith) (omega arith) (λ name ch ts ms l. too_many j name p i r' ch ts (STEPS - n') c' m ms us b s es n' some e f)

      -- the run from here on after one step
      one_on : (name : Name) (ch : ℕ) (ts : List Task) (ms : List ℕ) → onward j n' c' (m ∷ ms) (state us (task name p i r' ch ∷ ts) (STEPS - n')) b
          ≡ onward j (suc (n' - 1)) c' (m ∷ ms) (state us (task name p i r' ch ∷ ts) (STEPS - n')) b
      one_on name ch ts ms = ap (λ (y : ℕ). onward j y c' (m ∷ ms) (state us (task name p i r' ch ∷ ts) (STEPS - n')) b) (one_less n' some)

      pub body_returns : {b' : List ℕ} → (s.operation ≡ 0) ⊎ (11 ≤ s.operation) → b' ≡ store_all b ((STEPS - n') * 3) (m ∷ FINISHED ∷ 0 ∷ [])
          → BodyRuns j m p r d n c qs a (record { end = Ended; left = n' - 1; made = c' }) us b'
      unfolding resumed
      body_returns e eb = ends _ us _ (omega arith) (omega arith) (λ name ch ts ms l.
          one_on name ch ts ms
          ∙ return_turn j name p i r' ch ts (STEPS - n') c' m ms us b s es (n' - 1) e
          ∙ ap₂ (λ (y : ℕ) (x : List ℕ). onward j (n' - 1) c' ms (state us ts y) x) (one_made n' some n_few) (sym eb))

      pub goes_inner : {b' : List ℕ} (e : Made) (vs : List (List ℕ)) → Inner s.operation → full s (length (queue us s.which)) ≡ false
          → Gives s.operation s.which s.operand i r' us e vs → b' ≡ store_all b ((STEPS - n') * 3) (m ∷ e.answer ∷ e.value ∷ [])
          → Goes (n' - 1) c' e.next e.register vs b'
      goes_inner e vs h f does eb =
          record {
            fewer = let z = g.fewer in omega (arith, z);
            tasks = let z = g.tasks in omega (arith, z);
            same = λ name ch ts ms l.
                let w = g.same name ch ts ms l in (
                  w.0,
                  w.1
                      ∙ one_on name w.0 ts ms
                      ∙ inner_turn j name p i r' w.0 ts (STEPS - n') c' m ms us b s es (n' - 1) e vs h f does
                      ∙ ap₂ (λ (y : ℕ) (x : List ℕ). onward j (n' - 1) c' (m ∷ ms) (state vs (task name p e.next e.register w.0 ∷ ts) y) x)
                      (one_made n' some n_few) (sym eb),
                );
          }

      -- the child has come to its end
      module _ (v : ℕ) (e : Ran) (vs : List (List ℕ)) (b' : List ℕ) (eight : s.operation ≡ 8) (ev : v ≡ (r' + s.operand) % 4294967296)
          (child : ChildRuns j m s.which v d n' c' us b e vs b') where
        child_runs : (name : Name) (ch : ℕ) (ts : List Task) (ms : List ℕ) → length ts + 1 ≡ d
            → onward j n' c' (m ∷ ms) (state us (task name p i r' ch ∷ ts) (STEPS - n')) b
            ≡ resumed e.end j e.left e.made (task name p (i + 1) r' (ch + 1) ∷ ts) (m ∷ ms) vs b'
        unfolding sum
        child_runs name ch ts ms l = child.runs name p i r' ch ts ms s es eight refl (sym ev) l

        pub body_stops : OneOf (1 ∷ 2 ∷ []) (tag_of the_type e.end) → BodyRuns j m p r d n c qs a e vs b'
        body_stops k =
            ends e vs b' child.fewer child.tasks
            (λ name ch ts ms l. child_runs name ch ts ms l ∙ stopped e.end k (task name p (i + 1) r' (ch + 1) ∷ ts) ts (m ∷ ms) ms)
          where
            stopped : (x : End) → OneOf (1 ∷ 2 ∷ []) (tag_of the_type x) → (ts us : List Task) (ms ns : List ℕ)
                → resumed x j e.left e.made ts ms vs b' ≡ resumed x j e.left e.made us ns vs b'
            stopped Ended k ts us ms ns = ⊎_elim (λ y. let z : ⊥ = omega (arith, y) in absurd z) (λ y. let z : ⊥ = omega (arith, y) in absurd z) k
            stopped Spent k ts us ms ns = unfold resumed in refl
            stopped (Refused x) k ts us ms ns = unfold resumed in refl

        ended : (x : End) → OneOf (0 ∷ []) (tag_of the_type x) → x ≡ Ended
        ended Ended k = refl
        ended Spent k = let z : ⊥ = omega (arith, k) in absurd z
        ended (Refused x) k = let z : ⊥ = omega (arith, k) in absurd z

        module _ (k : OneOf (0 ∷ []) (tag_of the_type e.end)) where
          pub child_less : e.left < n'
          child_less = child.less (ended e.end k)

          pub goes_child : Goes e.left e.made (i + 1) r' vs b'
          goes_child =
              record {
                fewer = let y = child.fewer in let z = g.fewer in omega (arith, y, z);
                tasks = let y = child.tasks in let z = g.tasks in omega (arith, y, z);
                same = λ name ch ts ms l.
                    let w = g.same name ch ts ms l in
                    (w.0 + 1, w.1 ∙ child_runs name w.0 ts ms l ∙ goes_on name w.0 ts ms);
              }
            where
              goes_on : (name : Name) (ch : ℕ) (ts : List Task) (ms : List ℕ) → resumed e.end j e.left e.made (task name p (i + 1) r' (ch + 1) ∷ ts)
                  (m ∷ ms) vs b'
                  ≡ onward j e.left e.made (m ∷ ms) (state vs (task name p (i + 1) r' (ch + 1) ∷ ts) (STEPS - e.left)) b'
              goes_on name ch ts ms =
                  unfold resumed in ap (λ (x : End). resumed x j e.left e.made (task name p (i + 1) r' (ch + 1) ∷ ts) (m ∷ ms) vs b') (ended e.end k)
