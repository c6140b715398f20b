use Rattle.cbor4ii_tree.specs.{Basis.InputError.eof, Calls.SkippingRejects.skipping_profile}
use Rattle.cbor4ii_tree.proofs.answers.MayReject.{may_reject, leaves_nothing}
use Rattle.cbor4ii_tree.proofs.skipping.Answer as lemmas
use Rattle.cbor4ii_tree.proofs.laws.skipping_says_what_may_come.Goals as goal

pub returns : goal.returns
returns c = record {
  prefix = lemmas.prefix_rejects;
  nothing_left =
      λ input budget name expect rest. leaves_nothing skipping_profile input budget
      (eof name expect) rest tt;
  only_prefixes = lemmas.eof_on_prefix;
  no_steps = lemmas.depth_stays;
  never = lemmas.final_stays;
  no_others = may_reject skipping_profile;
}
