-- What is the same on every map: the legend, and how places, lines and promises are drawn.
use Rattle.std.specs.Prelude.{ℕ, Bool, if◌then◌else◌, List, [], ◌++◌, codes}

-- the first part of the head, up to the room between boxes
abbrev pub first_text : List ℕ
first_text =
    codes "digraph office {\n"
    ++ codes "  graph ["

-- The room between boxes, and how lines and arrows go. Graphviz leads them round the boxes where there are few, since that
-- takes long.
abbrev pub room_words : (few : Bool) → List ℕ
room_words few = if few then codes "sep=\"+6\", esep=\"+3\", splines=true" else codes "sep=\"+1\", splines=line"

-- the second part of the head, up to the number of the network in force
abbrev pub head_text : List ℕ
head_text =
    codes "];\n"
    ++ codes "  graph [overlap=prism, outputorder=edgesfirst];\n"
    ++ codes "  graph [fontname=\"Helvetica\", fontsize=10, labelloc=b, label=<\n"
    ++ codes "    <TABLE BORDER=\"0\" CELLBORDER=\"1\" CELLSPACING=\"4\">\n"
    ++ codes "      <TR>\n"
    ++ codes "        <TD BORDER=\"0\">Network "

-- the rest of the head: the legend, and how a place of the network is drawn
abbrev pub legend_text : List ℕ
legend_text =
    codes " is in force. Wagons of a class:</TD>\n"
    ++ codes "        <TD BGCOLOR=\"darkseagreen1\">free</TD>\n"
    ++ codes "        <TD BGCOLOR=\"lightskyblue1\">promised</TD>\n"
    ++ codes "        <TD>others</TD>\n"
    ++ codes "        <TD BORDER=\"0\">Orders:</TD>\n"
    ++ codes "        <TD BGCOLOR=\"orange\">lack wagons</TD>\n"
    ++ codes "        <TD BGCOLOR=\"lightskyblue1\">lack none</TD>\n"
    ++ codes "        <TD BORDER=\"0\">Places:</TD>\n"
    ++ codes "        <TD STYLE=\"rounded,dashed\">not in the network</TD>\n"
    ++ codes "      </TR>\n"
    ++ codes "      <TR>\n"
    ++ codes "        <TD BORDER=\"0\" COLSPAN=\"9\">Wagons on a journey are counted where they left. An order has the last moment at which wagons may arrive.</TD>\n"
    ++ codes "      </TR>\n"
    ++ codes "      <TR>\n"
    ++ codes "        <TD BORDER=\"0\" COLSPAN=\"9\">Thin lines have their kilometres and minutes; with arrows they lead one way. Dashed arrows are promised wagons.</TD>\n"
    ++ codes "      </TR>\n"
    ++ codes "    </TABLE>>];\n"
    ++ codes "  node [fontname=\"Helvetica\", fontsize=9, width=0, height=0];\n"
    ++ codes "  edge [fontname=\"Helvetica\", fontsize=9, arrowsize=0.6];\n"
    ++ codes "  node [shape=box, style=\"rounded,filled\", fillcolor=white, color=gray35, margin=\"0.05,0.03\"];\n"

-- How places without coordinates are set where others have some: by `neato`'s older way, since its newer one puts them beside
-- the others.
abbrev pub layout_words : (is_named : Bool) → List ℕ
layout_words is_named = if is_named then codes "  graph [mode=KK];\n" else []

-- how a place is drawn that isn't in the network
abbrev pub outside_text : List ℕ
outside_text = codes "  node [style=\"rounded,filled,dashed\"];\n"

-- how a line is drawn, and its kilometres and minutes
abbrev pub lines_text : List ℕ
lines_text =
    codes "  node [shape=plaintext, style=filled, fontcolor=gray20, fontsize=8, margin=\"0.01,0\"];\n"
    ++ codes "  edge [color=gray45];\n"

-- how promised wagons are drawn
abbrev pub promises_text : List ℕ
promises_text = codes "  edge [color=blue4, fontcolor=blue4, style=dashed, penwidth=1.5, len=1.2];\n"
