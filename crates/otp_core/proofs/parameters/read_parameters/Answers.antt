use Rattle.std.proofs.Common.{length, arith, ap}
use Rattle.otp_core.specs.Answers.{parameters_seen}
use Rattle.otp_core.proofs.ParameterLists.{ends, goes, refused}
use Rattle.otp_core.proofs.Parts.{cut_len}
use Rattle.otp_core.proofs.parameters.read_parameters.Goals as goal

pub returns-in-Err : goal.returns-in-Err
returns-in-Err c = refused _ c.parts.at c.parts.rest.now c.prefix_before-part.result.now (parameters_seen c.parts.found) (parameters_seen c.read_parameter.new.found)
    c.parts.invariant.value c.prefix_before-part.ensures c.in-Err.fail c.in-Err.ensures

pub returns-in-None : goal.returns-in-None
returns-in-None c = ends _ c.parts.at c.parts.rest.now c.prefix_before-part.result.now (parameters_seen c.parts.found) (parameters_seen c.read_parameter.new.found)
    c.parts.invariant.value c.prefix_before-part.ensures c.in-None.ensures c.in_default.ensures

pub parts-preserved : goal.parts-preserved
parts-preserved c = record {
  value = goes _ c.parts.at c.parts.rest.now c.prefix_before-part.result.now (parameters_seen c.parts.found) (parameters_seen c.read_parameter.new.found)
      c.parts.invariant.value c.prefix_before-part.ensures c.in-Some.next.now c.in-Some.ensures c.in_default.ensures;
  within = omega (arith, cut_len 38 c.parts.rest.now c.in-Some.next.now c.in-Some.ensures, ap length c.prefix_before-part.ensures, c.parts.invariant.within);
}
