use Rattle.arm_run.proofs.DecodedLemmas.PlainLemmas.{branches_lead, links_lead, jumps_lead}
use Rattle.arm_run.proofs.decoded.laws.op_words_branch.Goals as goal

pub returns-clause-branch : goal.returns-clause-branch
returns-clause-branch c = branches_lead

pub returns-clause-link : goal.returns-clause-link
returns-clause-link c = links_lead

pub returns-clause-jump : goal.returns-clause-jump
returns-clause-jump c = jumps_lead
