use Rattle.frame.proofs.Runs.{frames_come_through, frames_are_told_at_their_end, drops_are_told_at_their_octet}
use Rattle.frame.proofs.receiver.Receiver.new.Goals as goal

pub returns-clause-frames_come_through : goal.returns-clause-frames_come_through
returns-clause-frames_come_through c = frames_come_through

pub returns-clause-frames_are_told : goal.returns-clause-frames_are_told
returns-clause-frames_are_told c = frames_are_told_at_their_end

pub returns-clause-drops_are_told : goal.returns-clause-drops_are_told
returns-clause-drops_are_told c = drops_are_told_at_their_octet
