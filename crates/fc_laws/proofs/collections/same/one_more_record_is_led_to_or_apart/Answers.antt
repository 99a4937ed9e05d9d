use Rattle.fc_laws.proofs.SameLineLemmas.{first-silent, led-to, left-apart, refused-said}
use Rattle.fc_laws.proofs.collections.same.one_more_record_is_led_to_or_apart.Goals as goal

pub returns : goal.returns
returns c = record {
  first = λ variant records text heading contents none says. first-silent variant records text heading contents says none;
  led_to = λ variant records text heading contents first others are says. led-to variant records text heading contents says first others are;
  apart = λ variant records text heading contents first others are says. left-apart variant records text heading contents says first others are;
  refused = refused-said;
}
