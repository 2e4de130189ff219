-- NO ANSWER OF PROGRAM ORDER IS 2: neither "the memory rules fail" nor "a reduction the paper leaves out".
use Rattle.std.specs.Prelude.{◌≡◌, Bool, true, false, List, ℕ}
use Rattle.std.proofs.Math.Option.{Option, none, some}
use Rattle.std.proofs.Common.{arith}
use Rattle.spec_words.specs.Words.{pick}
use Rattle.spec_answers.specs.declared.Answer.{Answer}
use Rattle.spec_answers.specs.declared.Answer.TheVariants.{Moved, Waits, Refused}
use Rattle.spec_answers.specs.declared.Finding.{Finding}
use Rattle.spec_answers.specs.declared.Finding.TheVariants as Finding
use Rattle.spec_answers.specs.Answers.{status_of}
use Rattle.spec_answers.specs.Calls.{Call, open_call, spawn_call, push_call, take_call, sync_call, finish_call, left_call}
use Rattle.spec_order.specs.Steps.{Item}
use Rattle.spec_order.specs.Ordered.{for_task, for_queue, take_answer, left_answer, ordered}
use Rattle.law_in_order.specs.Answered.{decided, answered}

record NotTwo (a : Answer) : Type 0 where
  pub no : status_of a ≡ 2 → ⊥

choice : (b : Bool) {x y : Answer} → NotTwo x → NotTwo y → NotTwo (pick b x y)
unfolding pick
choice true f g = f
choice false f g = g

moved : {v : ℕ} → NotTwo (Moved v)
unfolding status_of
moved = record { no = λ e. omega (arith, e) }

waits : NotTwo Waits
unfolding status_of
waits = record { no = λ e. omega (arith, e) }

refused : {k : ℕ} → (k ≡ 2 → ⊥) → NotTwo (Refused k)
unfolding status_of
refused n = record { no = n }

for_task_lem : (t : ℕ) (xs : List Item) {a : Answer} → NotTwo a → NotTwo (for_task t xs a)
unfolding for_task
for_task_lem t xs f = choice _ f (refused (λ e. omega (arith, e)))

for_queue_lem : (q : ℕ) (held : Bool) {a : Answer} → NotTwo a → NotTwo (for_queue q held a)
unfolding for_queue
for_queue_lem q held f = choice _ (refused (λ e. omega (arith, e))) (choice held f (refused (λ e. omega (arith, e))))

take_answer_lem : (f : Finding) → NotTwo (take_answer f)
unfolding take_answer status_of
take_answer_lem (Finding.Value v) = moved
take_answer_lem Finding.Empty = record { no = λ e. omega (arith, e) }
take_answer_lem Finding.Waits = waits

left_answer_lem : (o : Option ℕ) → NotTwo (left_answer o)
unfolding left_answer
left_answer_lem (some v) = moved
left_answer_lem none = refused (λ e. omega (arith, e))

answers : (c : Call) (m : List ℕ) (xs : List Item) → NotTwo (answered c m xs)
unfolding answered ordered decided
answers (open_call l n) m xs = choice _ moved (refused (λ e. omega (arith, e)))
answers (spawn_call t r) m xs =
    for_task_lem t xs (choice _ (choice _ waits (choice _ (refused (λ e. omega (arith, e))) moved)) (refused (λ e. omega (arith, e))))
answers (push_call t q v) m xs = for_task_lem t xs (for_queue_lem q _ (choice _ waits (choice _ (refused (λ e. omega (arith, e))) moved)))
answers (take_call t q keep) m xs = for_task_lem t xs (for_queue_lem q _ (take_answer_lem _))
answers (sync_call t) m xs = for_task_lem t xs (choice _ waits moved)
answers (finish_call t) m xs = for_task_lem t xs (choice _ waits moved)
answers (left_call q i) m xs = choice _ (refused (λ e. omega (arith, e))) (choice _ waits (left_answer_lem _))

pub never_two : (c : Call) (m : List ℕ) (xs : List Item) → status_of (answered c m xs) ≡ 2 → ⊥
never_two c m xs = (answers c m xs).no
