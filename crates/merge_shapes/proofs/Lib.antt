pub mod OwnShape
pub mod PutNodes
pub mod SeenNodes
