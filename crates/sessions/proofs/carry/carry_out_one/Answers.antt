use Rattle.sessions.specs.declared.call.Given.TheVariants.{Left}
use Rattle.sessions.specs.declared.call.Given.TheVariants.{Used as used}
use Rattle.sessions.proofs.Exchanges.{answered, carried_cover, carried_as_is}
use Rattle.sessions.proofs.carry.carry_out_one.Goals as goal

pub returns-in-Cover : goal.returns-in-Cover
returns-in-Cover g c =
    carried_cover _ (answered used _ _ c.map.ensures.cases) c.in-Cover.run' c.as_mut_slice.result.now c.cover.new.run c.in-Cover.is c.as_mut_slice.ensures.value c.as_mut_slice.ensures.len c.cover.auto.run c.cover.ensures.promised

pub returns-in-Skip : goal.returns-in-Skip
returns-in-Skip g c = carried_as_is _ (answered Left _ _ c.map-in-Skip.ensures.cases) _ c.in-Skip.is (c.skip.ensures _ _)
