-- The text of document 01's job without overlap, established by computation.
use Rattle.std.specs.Prelude.{◌≡◌, refl, ◌++◌}
use Rattle.spec_words.specs.Words.{load, pick, both, either, size}
use Rattle.spec_words.specs.Blocks.{store_all}
use Rattle.spec_lists.specs.Tests.{upto}
use Rattle.spec_tree.specs.Rights.{bits, pushes, pops, each_queue, subset}
use Rattle.spec_job.specs.Fields.{bytes2, bytes4, procedures, segment_length, offset, count, rights, reserved, instruction_from, instruction_at}
use Rattle.spec_job.specs.Operations.{row_of, operation_of, operation_at}
use Rattle.spec_job.specs.Effects.{sum, effect}
use Rattle.spec_job.specs.Numbers.{number_of, word_numbered}
use Rattle.spec_job.specs.Test.{between, head_holds, refusal10, entry_holds, entries_hold, contents_hold, refusal11, which_holds, operand_holds, fitting, instruction_holds}
use Rattle.spec_job.specs.Test.{last_holds, body_holds, refusal12}
use Rattle.spec_job.specs.Examples.{full_run}
use Rattle.spec_plain.specs.Machine.{begin, queue, front, queues_after, advanced, parent, child, stack_after, effect_on, event_of, does, step}
use Rattle.spec_plain.specs.Run.{after, event_in, next}
use Rattle.spec_serial.specs.Serial.{too_deep, full, bound_on, stop_of, stopped, going_on, serial_from, serial}
use Rattle.spec_serial.specs.Answers.{numbers_after, made_after, row, written}
use Rattle.spec_serial.specs.Outcome.{shown, turned_down, serial_outcome}
use Rattle.text.specs.Text.{ascii, digits, decimal}
use Rattle.run_text.specs.Lines.{word_row, answer_text, printed_number, call_line, spaced, ended, line, left_line}
use Rattle.block_text.specs.Lines.{lines_from}
use Rattle.block_text.specs.Values.{value_lines}
use Rattle.serial_text.specs.Whole.{step_line, queue_lines, end_text, text_of, serial_text}

pub full_run_text : serial_text full_run
    ≡ ascii "1 0 spawned 1\n2 1 pushed 10\n3 1 finished -\n4 0 spawned 2\n5 2 took 10\n6 2 finished -\n"
    ++ ascii "7 0 spawned 3\n8 3 pushed 20\n9 3 finished -\n10 0 moved -\n11 0 finished -\nleft 0 20\n"
unfolding load pick both either size store_all upto bits pushes pops each_queue subset bytes2 bytes4 procedures segment_length offset count rights reserved
    instruction_from instruction_at row_of operation_of operation_at sum effect between head_holds refusal10 entry_holds entries_hold contents_hold refusal11
    which_holds operand_holds fitting instruction_holds last_holds body_holds refusal12 begin queue front queues_after advanced parent child stack_after effect_on
    event_of does step after event_in next too_deep full bound_on stop_of stopped going_on serial_from serial number_of word_numbered numbers_after made_after row written shown
    turned_down serial_outcome ascii digits decimal word_row answer_text printed_number call_line spaced ended line left_line lines_from step_line value_lines queue_lines end_text
    text_of serial_text
full_run_text = refl
