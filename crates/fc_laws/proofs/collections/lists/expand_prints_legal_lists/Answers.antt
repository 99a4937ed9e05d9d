use Rattle.fc_laws.proofs.ExpandLemmas.{comment-exactly, illegal-exactly, leads-there, listed-exactly, long-exactly}
use Rattle.fc_laws.proofs.ExpandLemmas.{verdict-same}
use Rattle.fc_laws.proofs.collections.lists.expand_prints_legal_lists.Goals as goal

pub returns : goal.returns
returns c = record {
  listed = λ variant collection member number list there. listed-exactly variant collection member there number list;
  comment = λ variant collection member number list there. comment-exactly variant collection member there number list;
  illegal = λ variant collection member number index list fault there listed.
      illegal-exactly variant collection member there list listed number index fault;
  too_long = λ variant collection member number list there listed. long-exactly variant collection member there list listed number;
  verdict = λ variant collection member list there. verdict-same variant collection member there list;
  leads = λ variant collection member after list there. leads-there variant collection member there after list;
}
