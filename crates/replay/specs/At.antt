-- THE LINES AT THE FRONT OF BYTES, those of a trace that has the form or what is left of them.
use Rattle.std.specs.Prelude.{◌≡◌, Bool, true, not, ℕ, ◌+◌, ◌<◌, ◌≤◌}
use Rattle.std.proofs.Math.Path.{refl, ap, ap₂, sym, subst}
use Rattle.std.proofs.Common.{◌∙◌, true≢false, arith}
use Rattle.std.proofs.Math.Bool.{false}
use Rattle.std.proofs.lemmas.Bool.{false≢true}
use mathlib.Core.List.{List, [], ◌∷◌}
use Rattle.std.proofs.Math.Option.{Option, none, some, some-injective, none-ne-some}
use Rattle.std.proofs.Math.ListN.{length}
use Rattle.spec_words.specs.Words.{both, pick}
use Rattle.spec_trace.specs.declared.Line.{Line}
use Rattle.spec_trace.specs.declared.Line.TheVariants.{Call, Left, Open}
use Rattle.spec_trace.specs.Line.{render_all, Valid}
use Rattle.spec_trace.specs.Read.{LineRead, line_at}
use Rattle.spec_trace.specs.Form.{is_call, lines_in, trace_lines, there, CallsFirst, Lined}
use Rattle.law_trace.specs.Whole.{line_first, lines_read, lines_printed}
use Rattle.law_trace.specs.Rendered.{shorter}
use Rattle.spec_replay.specs.Replay.{tasks_of}
use Rattle.spec_replay.specs.AsLines.{no_tasks}

unfoldable pub list_of : Option (List Line) → List Line
list_of none = []
list_of (some ls) = ls

unfoldable pub lines_of : List ℕ → List Line
lines_of bs = list_of (lines_in 65535 false bs)

-- the bytes are lines, of which n and those together are at most 65,535
pub record Room (bs : List ℕ) (n : ℕ) : Type 0 where
  pub lined : Lined 65535 false bs (lines_of bs)
  pub few : n + length (lines_of bs) ≤ 65535

-- where these are known
known : (bs : List ℕ) (ls : List Line) → Lined 65535 false bs ls → lines_of bs ≡ ls
unfolding lines_of list_of
known bs ls h = ap list_of (ap (lines_in 65535 false) (sym h.text) ∙ lines_read ls 65535 false h.valid h.order h.few)

-- THE START of a trace that has the form
pub starts : (bs : List ℕ) → there (trace_lines bs) ≡ true → (trace_lines bs ≡ some (lines_of bs)) × Room bs 0
unfolding trace_lines there lines_of list_of
starts bs e = go (lines_in 65535 false bs) refl e
  where
    go : (x : Option (List Line)) → lines_in 65535 false bs ≡ x → there x ≡ true
        → (lines_in 65535 false bs ≡ some (list_of (lines_in 65535 false bs))) × Room bs 0
    go none f t = absurd (false≢true t)
    go (some ls) f t =
        let l = lines_printed 65535 false bs ls f in
        let h : list_of (lines_in 65535 false bs) ≡ ls = ap list_of f in (
          f ∙ ap some (sym h),
          record {
            lined = subst (Lined 65535 false bs) (sym h) l;
            few = let k = l.few in let g = ap length h in omega (arith, k, g);
          },
        )

-- no call stands behind a line of the end
looser : (e : Bool) (ls : List Line) → CallsFirst e ls → CallsFirst false ls
unfolding both pick
looser e [] o = tt
looser e (l ∷ ls) o = (refl, o.1)

end_tasks : (l : Line) (ls : List Line) → is_call l ≡ false → CallsFirst (not (is_call l)) ls → tasks_of (l ∷ ls) ≡ []
unfolding is_call tasks_of
end_tasks (Call n t k v) ls e o = absurd (true≢false e)
end_tasks (Left q v) ls e o = no_tasks ls o
end_tasks (Open n) ls e o = no_tasks ls o

-- THE LINE at the front, and those behind it
pub record Next (bs : List ℕ) (n : ℕ) (l : Line) (rs : List ℕ) : Type 0 where
  pub lines : lines_of bs ≡ l ∷ lines_of rs
  pub valid : Valid l
  pub room : Room rs (n + 1)
  pub forward : length rs < length bs
  pub ended : is_call l ≡ false → tasks_of (lines_of bs) ≡ []

module _ {bs : List ℕ} {n : ℕ} (h : Room bs n) where
  -- no line was read
  pub none_left : (line_at bs).rest ≡ none → lines_of bs ≡ []
  none_left e = go (lines_of bs) h.lined
    where
      go : (ls : List Line) → Lined 65535 false bs ls → ls ≡ []
      go [] f = refl
      go (k ∷ ks) f =
          absurd (none-ne-some _ (sym e ∙ ap (λ (y : LineRead). y.rest) (ap line_at (sym f.text) ∙ line_first k ks f.valid.0)))

  module _ {l : Line} {rs : List ℕ} (x : (l ≡ (line_at bs).line) × (some rs ≡ (line_at bs).rest)) where
    by_lines : (ls : List Line) → lines_of bs ≡ ls → Lined 65535 false bs ls → n + length ls ≤ 65535 → Next bs n l rs
    by_lines [] e f few = let z = shorter bs rs (sym x.1) in absurd (no_bytes z f.text)
      where
        no_bytes : length rs < length bs → render_all [] ≡ bs → ⊥
        no_bytes z q = unfold render_all in (let g = ap length q in omega (arith, z, g))
    by_lines (k ∷ ks) e f few =
        let r : line_at bs ≡ record { line = k; rest = some (render_all ks) } = ap line_at (sym f.text) ∙ line_first k ks f.valid.0 in
        let a : l ≡ k = x.0 ∙ ap (λ (y : LineRead). y.line) r in
        let d : rs ≡ render_all ks = some-injective _ _ (x.1 ∙ ap (λ (y : LineRead). y.rest) r) in
        let t : Lined 65535 false rs ks = record {
          text = sym d;
          valid = f.valid.1;
          order = looser (not (is_call k)) ks f.order.1;
          few = let z = f.few in omega (arith, z);
        } in
        let b : lines_of rs ≡ ks = known rs ks t in
        record {
          lines = e ∙ ap₂ (λ (c : Line) (cs : List Line). c ∷ cs) (sym a) (sym b);
          valid = subst Valid (sym a) f.valid.0;
          room = record {
            lined = subst (Lined 65535 false rs) (sym b) t;
            few = let z = ap length b in omega (arith, few, z);
          };
          forward = shorter bs rs (sym x.1);
          ended = λ c. ap tasks_of e ∙ end_tasks k ks (ap is_call (sym a) ∙ c) f.order.1;
        }

    pub next_line : Next bs n l rs
    next_line = by_lines (lines_of bs) refl h.lined h.few
