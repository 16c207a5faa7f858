use Rattle.routes.proofs.AdditivePowers.{fourth-by_columns, sixteenth_by_columns, sixty_fourth_by_columns}
use Rattle.routes.proofs.additive_power.which.AdditivePower.columns.Goals as goal

pub returns-in-Fourth : goal.returns-in-Fourth
returns-in-Fourth c = rw c.in-Fourth.is fourth-by_columns

pub returns-in-Sixteenth : goal.returns-in-Sixteenth
returns-in-Sixteenth c = rw c.in-Sixteenth.is sixteenth_by_columns

pub returns-in-SixtyFourth : goal.returns-in-SixtyFourth
returns-in-SixtyFourth c = rw c.in-SixtyFourth.is sixty_fourth_by_columns
