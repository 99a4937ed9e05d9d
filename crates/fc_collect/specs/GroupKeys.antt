-- The equality of keys of groups, as it is derived.
pub use Rattle.fc_collect.specs.contracts.groups.GroupKeyPartialEq.TheImpl.{eq-value}
