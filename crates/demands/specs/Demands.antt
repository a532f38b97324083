-- The user's three demands and 02's requests, sentence by sentence, each by its theorems. docs/DEMANDS.md leads through them and says what they leave out.

-- 1. "It accepts exactly what document 01 admits;"
pub use Rattle.demands.specs.Demand1.{accepts_exactly_what_01_admits, size_accepts_exactly, compile_accepts_exactly, decode_accepts_exactly, judge_accepts_exactly, image_accepts_exactly}
-- "otherwise it gives the refusal and detail that 01 fixes," first those of the record
pub use Rattle.demands.specs.Demand1.{size_passes_it_on, compile_passes_it_on, decode_passes_it_on, judge_passes_it_on, image_passes_it_on}
-- (01: "Each is given exactly when its condition is the first met in this order"), of 4 to 7 and 15 to 17 the field and its range, and 9 of case 10
pub use Rattle.demands.specs.Refusals.{refused_exactly_when, a_refusal_of_a_field_means, the_wrong_part_of_a_term, no_admitted_record_agrees_through_the_field}
pub use Rattle.demands.specs.TooLarge.{case_10_is_refused_with_9}
-- "and each lent list still holds what it held."
pub use Rattle.demands.specs.Demand1.{compile_refusal_changes_nothing, decode_refusal_changes_nothing, image_refusal_changes_nothing}
-- 2. "The clause list is, number for number, the order encoding of 000, in 01's order and numbering"
pub use Rattle.demands.specs.Demand2.{the_list_is_written, later_places_keep_their_numbers, cut_at_its_zeros_the_list_is_the_clauses, each_variable_has_its_number}
-- "The size foretold is the size written."
pub use Rattle.demands.specs.Demand2.{the_size_foretold_is_the_size_written, the_size_answered_is_the_size_foretold}
-- "a model is accepted exactly if it satisfies every clause of that list, and its values are read as 000 reads them."
pub use Rattle.demands.specs.Demand2.{a_model_is_accepted_exactly_if_it_satisfies_the_list, each_value_is_the_least_true, the_booleans_are_the_first_bytes}
-- 3. "each model of that list decodes to a solution: integers within bounds and Booleans under which all clauses hold as ordinary arithmetic."
pub use Rattle.demands.specs.Demand3.{a_model_means, each_model_decodes_to_a_solution, a_solution_means}
-- "A model is plain if each selector is true exactly when its comparison holds at the decoded values."
pub use Rattle.demands.specs.Demand3.{plain_means}
-- "Decoding pairs the plain models with the solutions one to one, with none left over on either side."
pub use Rattle.demands.specs.Demand3.{each_plain_model_is_paired, each_solution_is_paired, one_solution_each, one_plain_model_each}
-- so do the operations
pub use Rattle.demands.specs.Demand3.{judge_accepts_what_decode_leaves, decode_gives_the_solution, judge_accepts_it, image_gives_the_model_back}
-- ---- the earliest closing hour (02, P9). It answers where 02 admits record, variable and replies, and passes a refusal of the record on
pub use Rattle.demands.specs.Earliest.{closing_accepts_exactly, closing_passes_it_on}
-- "If every reply is true of the record with that clause added, the value found is the least, within 14 questions."
pub use Rattle.demands.specs.Earliest.{the_value_found_is_the_least, no_question_is_left_after_14}
-- what is asked: that clause added, or solutions with the variable at most h
pub use Rattle.demands.specs.Questions.{added_means, a_question_means}
-- "a no there ends with 'none'", "the range so far"
pub use Rattle.demands.specs.Earliest.{a_first_no_ends_with_none, none_comes_of_a_first_no, none_exactly_where_there_is_no_solution, the_least_is_in_the_range, every_question_lies_within_the_bounds}
-- one list serves all questions
pub use Rattle.demands.specs.OneList.{one_list_serves, the_list_answers_the_question}
-- what a driver does, with every function that replies truly; and there is one
pub use Rattle.demands.specs.Earliest.{a_driver_asks_14_questions_at_most, a_driver_finds_the_least}
pub use Rattle.demands.specs.Tried.{is_solved_decides, trying_all_finds_the_least}
-- ---- text and replies (02, P2): for all bytes, and for every N of 32 bits that a reply is read for
-- "a writer of an accepted record's DIMACS CNF text, as the program prints it"
pub use Rattle.demands.specs.TextWritten.{the_writer_writes_it, the_program_prints_it, what_is_written_is_good}
-- "a reader of such text": it is read as N, M and a list exactly if it is good text of them
pub use Rattle.demands.specs.GoodTexts.{text_is_read_exactly_if_good}
-- "a reader of a reply", "the line `s UNSATISFIABLE` alone is answered 'none'": it is read exactly if it is good
pub use Rattle.demands.specs.GoodReplies.{a_reply_is_read_exactly_if_good}
-- the first demand: what is accepted, whose refusals are passed on, and that a refusal changes nothing
pub use Rattle.demands.specs.TextDemand1.{write_text_accepts_exactly, read_text_accepts_exactly, a_model_is_answered_exactly, none_is_answered_exactly}
pub use Rattle.demands.specs.TextDemand1.{write_text_passes_it_on, read_text_passes_it_on, read_reply_passes_it_on}
pub use Rattle.demands.specs.TextDemand1.{write_text_refusal_changes_nothing, read_text_refusal_changes_nothing, read_reply_refusal_changes_nothing}
-- "Reading what was written gives the list again."
pub use Rattle.demands.specs.TextWritten.{reading_what_was_written_gives_the_list, reading_what_was_written_is_compiling}
-- "18 bad text, detail the offset of the first number beyond N or past clause M, or of an earlier byte that no good text has there, else the text's length"
pub use Rattle.demands.specs.Pinned.{bad_text_is_pinned, a_bad_reply_is_pinned}
-- "'none', without 19 or 11"; "then 19, a variable missing or present twice, detail the least such number"; "11 for the model"
pub use Rattle.demands.specs.ReplyModels.{none_is_none, all_once_or_one_is_least, refused_with_19_at_the_least, refused_with_11_for_its_length, a_model_is_read}
-- a model has exactly the reply's literals
pub use Rattle.demands.specs.ReplyModels.{the_model_has_exactly_the_literals, the_model_has_N_bytes}
-- ---- the paper's own statements
pub use Rattle.demands.specs.Rule.{lemma_1, proposition_1}
pub use Rattle.demands.specs.Order.{proposition_2}
pub use Rattle.demands.specs.Selectors.{lemma_2_sound, lemma_2_full}
