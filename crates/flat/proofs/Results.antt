-- Any two results that a public function's promise allows on the same arguments are equal. Made by tests/results.py.
use Rattle.words.proofs.Determined.{same, Determined}
use Rattle.flat.proofs.answers.AskedFromResultUnitRefusal.from.Reads as asked_from
use Rattle.flat.proofs.answers.OpeningFromResultU32Refusal.from.Reads as opening_from
use Rattle.flat.proofs.answers.SpotFromResultStandsRefusal.from.Reads as spot_from
use Rattle.flat.proofs.answers.FoundFromResultOptionPositionRefusal.from.Reads as found_from
use Rattle.flat.proofs.answers.FoundFromResultOptionFilePositionRefusal.from.Reads as found_from_file_position
use Rattle.flat.proofs.commits.CommitFromResultCommitCommitRefusal.from.Reads as commit_from
use Rattle.flat.proofs.parts.part_at.Reads as part_at
use Rattle.flat.proofs.parts.no_part.Reads as no_part
use Rattle.flat.proofs.parts.PartFromResultOptionSpanRefusal.from.Reads as part_from
use Rattle.flat.proofs.parts.TrailerFromResultCheckedRefusal.from.Reads as trailer_from
use Rattle.flat.proofs.parts.EntryFromResultOptionChunkEntryRefusal.from.Reads as entry_from
use Rattle.flat.proofs.records.file_of.Reads as file-of
use Rattle.flat.proofs.records.OpenedFromResultFileRefusal.from.Reads as opened_from
use Rattle.flat.proofs.verdicts.TraversalFromTraverseTraversal.from.Reads as traversal_from
use Rattle.flat.proofs.verdicts.VerificationFromAuditVerification.from.Reads as verification_from
use Rattle.flat.proofs.walks.walk_at.Reads as walk_at
use Rattle.flat.proofs.walks.StepFromParentsStep.from.Reads as step_from
use Rattle.flat.proofs.walks.StepFromWalkStep.from.Reads as step_from_walk_step
use Rattle.flat.proofs.walks.TotalFromResultUsizeRefusal.from.Reads as total_from

pub asked_from_determined : Determined asked_from.Learnt
asked_from_determined κs a y z d e p q = same p q

pub opening_from_determined : Determined opening_from.Learnt
opening_from_determined κs a y z d e p q = same p q

pub spot_from_determined : Determined spot_from.Learnt
spot_from_determined κs a y z d e p q = same p q

pub found_from_determined : Determined found_from.Learnt
found_from_determined κs a y z d e p q = same p q

pub found_from_file_position_determined : Determined found_from_file_position.Learnt
found_from_file_position_determined κs a y z d e p q = same p q

pub commit_from_determined : Determined commit_from.Learnt
commit_from_determined κs a y z d e p q = same p q

pub part_at_determined : Determined part_at.Learnt
part_at_determined κs a y z d e p q = same p q

pub no_part_determined : Determined no_part.Learnt
no_part_determined κs a y z d e p q = same p q

pub part_from_determined : Determined part_from.Learnt
part_from_determined κs a y z d e p q = same p q

pub trailer_from_determined : Determined trailer_from.Learnt
trailer_from_determined κs a y z d e p q = same p q

pub entry_from_determined : Determined entry_from.Learnt
entry_from_determined κs a y z d e p q = same p q

pub file_of_determined : Determined file-of.Learnt
file_of_determined κs a y z d e p q = same p q

pub opened_from_determined : Determined opened_from.Learnt
opened_from_determined κs a y z d e p q = same p q

pub traversal_from_determined : Determined traversal_from.Learnt
traversal_from_determined κs a y z d e p q = same p q

pub verification_from_determined : Determined verification_from.Learnt
verification_from_determined κs a y z d e p q = same p q

pub walk_at_determined : Determined walk_at.Learnt
walk_at_determined κs a y z d e p q = same p q

pub step_from_determined : Determined step_from.Learnt
step_from_determined κs a y z d e p q = same p q

pub step_from_walk_step_determined : Determined step_from_walk_step.Learnt
step_from_walk_step_determined κs a y z d e p q = same p q

pub total_from_determined : Determined total_from.Learnt
total_from_determined κs a y z d e p q = same p q
