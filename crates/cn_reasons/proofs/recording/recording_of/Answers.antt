use Rattle.std.proofs.Common.{◌+◌, length, IsBitSet}
use Rattle.cn_choice.specs.Canonical.{raw_choice_of}
use Rattle.cn_choice.specs.RawChoices.{RawChoice}
use Rattle.cn_choice.specs.declared.team.Team.TheVariants.{A, B}
use Rattle.cn_outcomes.specs.LeftStates.{LeavesIn}
use Rattle.cn_reasons.proofs.StateLemmas.{left_known, same_states}
use Rattle.cn_reasons.proofs.recording.recording_of.Goals as goal

pub states_in-requires : goal.states_in-requires
states_in-requires c q here =
    let choice = c.args.choice.now in
    let left = rw c.of-raw.ensures at c.left_states-from_a.ensures in
    left_known c.args.table.now c.states-states.ensures.table (raw_choice_of choice) (length choice.a + length choice.b) c.requires.fits.fits A q ((left q).0 here)

pub states_in-requires-2 : goal.states_in-requires-2
states_in-requires-2 c q here =
    let choice = c.args.choice.now in
    let left = rw c.of-raw.ensures at c.left_states-from_b.ensures in
    left_known c.args.table.now c.states-states.ensures.table (raw_choice_of choice) (length choice.a + length choice.b) c.requires.fits.fits B q ((left q).0 here)

pub reader_of-requires-clause-from_a : goal.reader_of-requires-clause-from_a
reader_of-requires-clause-from_a c = rw c.of-raw.ensures at c.left_states-from_a.ensures

pub reader_of-requires-clause-from_b : goal.reader_of-requires-clause-from_b
reader_of-requires-clause-from_b c = rw c.of-raw.ensures at c.left_states-from_b.ensures

pub returns-clause-witness : goal.returns-clause-witness
returns-clause-witness c =
    let t = c.args.table.now in
    let raw : RawChoice = raw_choice_of c.args.choice.now in
    let left_a = rw c.of-raw.ensures at c.left_states-from_a.ensures in
    let left_b = rw c.of-raw.ensures at c.left_states-from_b.ensures in record {
      processes = c.processes_of.ensures;
      choice = c.choice_groups.ensures.groups;
      a_states = same_states (IsBitSet c.left_states-from_a.result) (LeavesIn t raw A) c.in_ok-states_in.field-0.items left_a c.in_ok-states_in.ensures.states;
      b_states = same_states (IsBitSet c.left_states-from_b.result) (LeavesIn t raw B) c.in_ok-states_in-2.field-0.items left_b c.in_ok-states_in-2.ensures.states;
      reader = c.reader_of.ensures;
    }
