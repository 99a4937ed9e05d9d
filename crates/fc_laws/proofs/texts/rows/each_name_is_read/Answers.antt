use Rattle.{fc_laws.proofs.NamedLineLemmas.{names_cells, names_foundations}, std.proofs.Common.{codes, refl}}
use Rattle.fc_laws.proofs.texts.rows.each_name_is_read.Goals as goal

pub returns-clause-foundations : goal.returns-clause-foundations
returns-clause-foundations c = names_foundations (codes "foundations") refl refl

pub returns-clause-foundation : goal.returns-clause-foundation
returns-clause-foundation c = names_foundations (codes "foundation") refl refl

pub returns-clause-founds : goal.returns-clause-founds
returns-clause-founds c = names_foundations (codes "founds") refl refl

pub returns-clause-found : goal.returns-clause-found
returns-clause-found c = names_foundations (codes "found") refl refl

pub returns-clause-decks : goal.returns-clause-decks
returns-clause-decks c = names_foundations (codes "decks") refl refl

pub returns-clause-deck : goal.returns-clause-deck
returns-clause-deck c = names_foundations (codes "deck") refl refl

pub returns-clause-freecells : goal.returns-clause-freecells
returns-clause-freecells c = names_cells (codes "freecells") refl refl refl

pub returns-clause-freecell : goal.returns-clause-freecell
returns-clause-freecell c = names_cells (codes "freecell") refl refl refl

pub returns-clause-fc : goal.returns-clause-fc
returns-clause-fc c = names_cells (codes "fc") refl refl refl
