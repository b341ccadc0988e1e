-- Edges that are read by place.
use Rattle.npos_base.specs.declared.figures.Edge.{Edge}

-- what stands for an edge at a place behind the last one
abbrev pub no_edge : Edge
no_edge = record { voter = 0; target = 0; amount = 0 }
