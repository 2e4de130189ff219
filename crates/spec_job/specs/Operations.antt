-- THE TABLE OF OPERATIONS: what each operation does, and what its two fields are. The job test, the plain machine and
-- the runner of tasks all go by this one table.
use Rattle.std.specs.Prelude.{List, [], ◌∷◌, ℕ, get_or}

pub data Operation : Type 0 where
  return push push_sum pop go_if_empty go go_if_zero add spawn sync take_or_go : Operation

-- What the byte "which" names: nothing, so that it is zero; a queue, and the right to it that is needed; a procedure.
pub data Which : Type 0 where
  no_which pushed_queue popped_queue procedure : Which

-- What the operand is: nothing, so that it is zero; any number; the instruction of the body to go to.
pub data Operand : Type 0 where
  no_operand number target : Operand

pub data Row : Type 0 where
  row : Operation → Which → Operand → Row
  undefined : Row

-- "0 return; 1 push operand to queue which; 2 push register plus operand to queue which; 3 pop from queue which into the
-- register; 4 go to instruction operand .. if queue which is empty; 5 go to operand; 6 go to operand if the register is
-- zero; 7 add operand to the register; 8 spawn procedure which, its register being the spawner's plus operand; 9 sync." By document 02, No. 4,
-- "operation 10: take into the register, or go to operand if queue which is empty".
abbrev pub table : List Row
table =
    row return no_which no_operand
    ∷ row push pushed_queue number
    ∷ row push_sum pushed_queue number
    ∷ row pop popped_queue no_operand
    ∷ row go_if_empty popped_queue target
    ∷ row go no_which target
    ∷ row go_if_zero no_which target
    ∷ row add no_which number
    ∷ row spawn procedure number
    ∷ row sync no_which no_operand
    ∷ row take_or_go popped_queue target
    ∷ []

-- the row of operation number k
unfoldable pub row_of : ℕ → Row
row_of k = get_or table k undefined

-- Operation number k. A number that is none, which no accepted job has, is taken for a return.
unfoldable pub operation_of : Row → Operation
operation_of (row o w x) = o
operation_of undefined = return

unfoldable pub operation_at : ℕ → Operation
operation_at k = operation_of (row_of k)
