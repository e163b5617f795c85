pub mod AssociationClass
pub mod AssociationLaws
pub mod Permits
