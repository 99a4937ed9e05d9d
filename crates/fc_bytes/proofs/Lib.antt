mod BytesInOrder
mod CarriedBytes
mod ExactBytes
mod LaidBytes
pub mod DecodedLemmas
mod BitsDecoded
pub mod MovesDecoded
pub mod PassageDecoded
mod PutCards
pub mod ChildrenLemmas
pub mod LegalMoves
pub mod RunMoves
mod AskedColumns
mod EmptyPiles
pub mod SumLemmas
