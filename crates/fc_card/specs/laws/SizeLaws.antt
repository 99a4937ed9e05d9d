-- Groups whose members all have one size.
use Rattle.{fc_card.specs.{ActionLaws, GroupLaws, IsOfSize}, std.proofs.Common.{refl, ℕ}}

module _ {G : Type 0} {IsMember : G → Type 0} {identity : G} {product : G → G → G} where
  pub group_of_one_size : {inverse : G → G} → GroupLaws IsMember identity product inverse → (count : ℕ)
      → GroupLaws (IsOfSize IsMember (λ _. count) count) identity product inverse
  group_of_one_size laws count = record {
    identity-IsMember = (laws.identity-IsMember, refl);
    product-IsMember = λ x y is_x is_y. (laws.product-IsMember x y is_x.0 is_y.0, refl);
    inverse-IsMember = λ x is. (laws.inverse-IsMember x is.0, refl);
    associative = λ x y z is_x is_y is_z. laws.associative x y z is_x.0 is_y.0 is_z.0;
    left_identity = λ x is. laws.left_identity x is.0;
    right_identity = λ x is. laws.right_identity x is.0;
    left_inverse = λ x is. laws.left_inverse x is.0;
    right_inverse = λ x is. laws.right_inverse x is.0;
  }

  pub action_of_sizes : {T : Type 0} {CanAct : T → Type 0} {image : G → T → T} → ActionLaws IsMember identity product CanAct image →
      (size : G → ℕ) (count : ℕ) → ActionLaws (IsOfSize IsMember size count) identity product CanAct image
  action_of_sizes laws size count = record {
    image-CanAct = λ x item is can. laws.image-CanAct x item is.0 can;
    identity_changes_nothing = laws.identity_changes_nothing;
    one_after_the_other = λ x y item is_x is_y can. laws.one_after_the_other x y item is_x.0 is_y.0 can;
  }
