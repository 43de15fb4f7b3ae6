-- The nodes that a deserializer of values has left.
use Rattle.sj_parse.specs.declared.deserializer.Deserializer.{Deserializer}
use Rattle.sj_build.specs.declared.deserializer.ValueDeserializer.{ValueDeserializer}

abbrev pub left : {V K : Type 0} → ValueDeserializer V K → Deserializer
left d = d.nodes
