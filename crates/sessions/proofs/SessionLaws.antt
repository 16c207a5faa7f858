-- All laws of sessions. Assumes nothing.
use Rattle.sessions.specs.Histories.{encrypted}
use Rattle.sessions.specs.Laws.{SessionLaws}
use Rattle.sessions.proofs.Carrying as carrying
use Rattle.sessions.proofs.Chains as chains
use Rattle.sessions.proofs.Histories as histories
use Rattle.sessions.proofs.Pieces as pieces
use Rattle.sessions.proofs.Places as places
use Rattle.sessions.proofs.Steps as steps

pub session_laws : SessionLaws
session_laws =
    record {
      answers_are_the_rules = histories.answers_are_the_rules;
      the_other_end_uncovers = histories.the_other_end_uncovers;
      counter_blocks_are_added = places.counter_blocks_are_added;
      refused_calls_leave_their_run = places.refused_calls_leave_their_run;
      taken_calls_are_counter_mode = places.taken_calls_are_counter_mode;
      no_counter_block_twice = places.no_counter_block_twice;
      no_counter_block_twice_in_a_chain = chains.no_counter_block_twice_in_a_chain;
      the_tally_is_the_sum = histories.the_tally_is_the_sum;
      a_listener_learns_lengths_only = histories.a_listener_learns_lengths_only;
      adding_twice_undoes = pieces.plus_twice;
      counter_mode_undoes_itself = λ key t text. pieces.ctr_twice (encrypted key) t (steps.length-encrypted key) text;
      empty_runs_are_taken = places.empty_runs_are_taken;
      every_list_can_be_carried_out = carrying.every_list_can_be_carried_out;
      every_session_can_be_fed_on = carrying.every_session_can_be_fed_on;
    }
